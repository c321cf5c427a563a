use Rattle.std.proofs.Common.{ap, ◌∙◌, ℕ}
use Rattle.rand_pcg.specs.Lcg.{Lcg}
use Rattle.wb_random.specs.Words.{word_of, after_word}
use Rattle.wb_random.proofs.words.RandomWords.next.Goals as goal

pub returns-clause-word : goal.returns-clause-word
unfolding word_of
returns-clause-word c = ap (λ (x : ℕ × Lcg). x.0) c.next_u64_via_u32.ensures ∙ ap (λ (g : Lcg). word_of g) c.self.view_is

pub returns-clause-rest : goal.returns-clause-rest
unfolding after_word
returns-clause-rest c = ap (λ (x : ℕ × Lcg). x.1) c.next_u64_via_u32.ensures ∙ ap (λ (g : Lcg). after_word g) c.self.view_is
