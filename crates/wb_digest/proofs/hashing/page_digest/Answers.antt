use Rattle.std.proofs.Common.{◌≡◌, ℕ, List, ◌++◌, ◌∷◌, [], ap, sym, ◌∙◌, subst, arith, take, rules, ◌+◌}
use Rattle.std.proofs.lemmas.List.{flat_map_more, take_more}
use Rattle.sha2.specs.Hashers.{Holds256}
use Rattle.wb_names.specs.Values.{DrawopValue}
use Rattle.wb_codec.specs.Spelling.{spelling}
use Rattle.wb_codec.specs.declared.datagram.Datagram.TheVariants.{Draw}
use Rattle.wb_digest.specs.Digest.{hashed_text}
use Rattle.wb_digest.proofs.hashing.page_digest.Goals as goal

pub loop-drawop-preserved : goal.loop-drawop-preserved
loop-drawop-preserved c =
    let all : List DrawopValue = c.deref-drawop-items.result.now in
    let at : ℕ = c.loop-drawop.drawop-index in
    let drawop : DrawopValue = c.drawop-item.result in
    let more : hashed_text (take at all) ++ spelling (Draw drawop) ≡ hashed_text (take (at + 1) all) = flat_map_more (λ (d : DrawopValue). spelling (Draw d)) [] (take at all) drawop ∙ ap hashed_text (sym (take_more all at drawop (omega arith) ∙ ap (λ (d : DrawopValue). take at all ++ d ∷ []) (sym c.drawop-item.is))) in
    subst (λ (m : List ℕ). Holds256 c.update.new.self m) more (search rules)
