use Rattle.std.proofs.Common.{◌∙◌, Option, rules, sym, ap}
use Rattle.std.specs.Prelude.{unwrap_or}
use Rattle.std.specs.Option.{option_map}
use Rattle.std.proofs.lemmas.Fn.{always_returns_same}
use Rattle.wb_names.specs.Values.{MarkValue}
use Rattle.wb_keeper.proofs.Searching.{found_ok, found_err, mark_found}
use Rattle.wb_keeper.proofs.keeper.knowing.number_of.Goals as goal

pub returns-in-Ok : goal.returns-in-Ok
returns-in-Ok c =
    let marks = c.args.marks.now in
    let a = c.index-marks-place.result in
    let found = found_ok (λ (m : MarkValue). m.source) c.args.source marks c.requires.ascending c.in-Ok.place c.in-Ok.ensures.bound (c.in-Ok.ensures.position (λ (m : MarkValue). m.source) (always_returns_same _ _ _ (λ a r g h. (search rules, search rules)))) a in
    c.high.ensures.high ∙ ap (λ (m : MarkValue). m.high) c.index-marks-place.is
    ∙ sym (mark_found marks c.args.source ∙ ap (λ (o : Option MarkValue). unwrap_or (option_map (λ (m : MarkValue). m.high) o) 0) found)

pub returns-in-Err : goal.returns-in-Err
returns-in-Err c =
    let marks = c.args.marks.now in
    let none = found_err (λ (m : MarkValue). m.source) c.args.source marks c.requires.ascending _ (c.in-Err.ensures.position (λ (m : MarkValue). m.source) (always_returns_same _ _ _ (λ a r g h. (search rules, search rules)))) in
    sym (mark_found marks c.args.source ∙ ap (λ (o : Option MarkValue). unwrap_or (option_map (λ (m : MarkValue). m.high) o) 0) none)
