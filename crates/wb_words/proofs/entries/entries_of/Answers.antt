use Rattle.std.proofs.lemmas.Grind.{common_steps}
use Rattle.std.proofs.Common.{◌≡◌, ◌<◌, ◌+◌, ℕ, length, sym, ap, ◌∙◌, arith}
use Rattle.std.proofs.lemmas.Result.{err_from_is_err_and}
use Rattle.wb_codec.proofs.EntryLists.{ascends_more}
use Rattle.wb_words.specs.Rests.{words_left}
use Rattle.wb_words.proofs.EntryLists.{read_pushed, read_stops, read_many, read_all, read_until}
use Rattle.wb_words.proofs.entries.entries_of.Goals as goal
use Rattle.wb_words.proofs.entries.entries_of.Goals.{in-Words+then-ends, in_default}
use Rattle.wb_names.specs.declared.entries.TheConstants.{MAX_ENTRIES}

pub returns-then-len-eq-MAX_ENTRIES : goal.returns-then-len-eq-MAX_ENTRIES
returns-then-len-eq-MAX_ENTRIES g c = grind (arith, common_steps, read_many)

pub returns-in_err-entry : goal.returns-in_err-entry
returns-in_err-entry g c =
    let is = ap words_left c.in-Words.is ∙ c.first_word.ensures in
    let count : length c.loop-left.entries.items ≡ c.len.result = omega (arith, c.len.ensures, c.loop-left.entries.ok) in
    let few : length c.loop-left.entries.items < MAX_ENTRIES = omega (arith, c.len-in-Words.ensures, c.loop-left.entries.ok, c.loop-left.invariant.read.few) in
    let p = err_from_is_err_and c.from_residual.result c.from_residual.ensures.1 in
    rw (p.1, p.2) (read_stops g.E.Worded.entry_at g.E.Entry.source g.E.Worded.stops _ _ _ _ _ _ _ _ _ c.loop-left.invariant.read is (sym c.ends.ensures ∙ c.if-ends.false) few (ap (λ (n : ℕ). c.args.place + n) (sym count)) (sym c.in_err-entry.ensures.entry))

pub loop-left-preserved : goal.loop-left-preserved
loop-left-preserved g c =
    let is = ap words_left c.in-Words.is ∙ c.first_word.ensures in
    let count : length c.loop-left.entries.items ≡ c.len.result = omega (arith, c.len.ensures, c.loop-left.entries.ok) in
    let few : length c.loop-left.entries.items < MAX_ENTRIES = omega (arith, c.len-in-Words.ensures, c.loop-left.entries.ok, c.loop-left.invariant.read.few) in
    record {
      read = read_pushed g.E.Worded.entry_at g.E.Entry.source g.E.Worded.stops _ _ _ _ _ _ _ _ _ _ _ c.loop-left.invariant.read is (sym c.ends.ensures ∙ c.if-ends.false) few (ap (λ (n : ℕ). c.args.place + n) (sym count)) (sym c.in_ok-entry.ensures.entry) c.source.ensures.source c.in_ok-push.ensures.items;
      ascends = ascends_more g.E.Entry.source g.E.Entry.IsPositive _ _ _ _ _ c.loop-left.invariant.ascends c.in_ok-entry.ensures.above c.in_ok-entry.ensures.positive c.in_ok-push.ensures.items c.source.ensures.source;
    }

pub returns : goal.returns
returns g c = grind (arith, common_steps, read_until, read_all)
