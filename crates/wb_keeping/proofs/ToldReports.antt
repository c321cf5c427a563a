-- A report of a policy tells what is in turn, or what changed last.
use Rattle.std.proofs.Common.{◌≡◌, List, [], ◌∷◌, Option, Some, None, refl}
use Rattle.wb_names.specs.Values.{MarkValue, NameValue}
use Rattle.wb_codec.specs.declared.datagram.Datagram.TheVariants.{Session}
use Rattle.wb_gaps.specs.Answers.{pages_of, report_of}
use Rattle.wb_policy.specs.Choices.{firsts_of, next_turn, until_in}
use Rattle.wb_policy.specs.Fairness.{after_telling, marks_in_turn, page_in_turn, where_left, where_newest}
use Rattle.wb_policy.specs.Policy.{Policy}
use Rattle.wb_policy.specs.Reports.{newest_now, page_after, rest_after, slice_after, slice_with, told_in_turn, told_newest}
use Rattle.wb_keeping.specs.Fairness.{ReportsTell}
use Rattle.wb_keeping.specs.Kept.{Line, Says, report_echoes, reports_either, reports_rest}
use Rattle.wb_keeping.specs.Views.{View, is_known}

rest_tells : (see : List Line → View) (p : Policy) (marks : List MarkValue)
    → let v = see [] in
    let other = page_after p.told.page (pages_of v.held) in
    let page = where_left marks other p.told.page in
    let told = where_left marks (slice_after None (report_of v.held other)) marks in
    ((reports_rest marks see p).lines ≡ Says (Session v.me v.now page told (report_echoes v p)) ∷ [])
    × ((reports_rest marks see p).policy.told ≡ told_in_turn page (where_left marks (until_in (report_of v.held other)) p.told.until) told)
    × ((reports_rest marks see p).policy.echoed ≡ next_turn (firsts_of (is_known v) p.echoed v.echoes) p.echoed (report_echoes v p))
rest_tells see p [] = (refl, refl, refl)
rest_tells see p (m ∷ marks) = (refl, refl, refl)

either_tells : (see : List Line → View) (p : Policy) (name : Option NameValue)
    → let v = see [] in
    let page = where_newest name (page_in_turn v.held p.told) (λ name. name.page) in
    let marks = where_newest name (marks_in_turn v.held p.told) (λ name. slice_with name.source (report_of v.held name.page)) in
    ((reports_either name see p).lines ≡ Says (Session v.me v.now page marks (report_echoes v p)) ∷ [])
    × ((reports_either name see p).policy.told ≡ where_newest name (after_telling v.held p.told) (λ name. told_newest p.told))
    × ((reports_either name see p).policy.echoed ≡ next_turn (firsts_of (is_known v) p.echoed v.echoes) p.echoed (report_echoes v p))
either_tells see p None = rest_tells see p (rest_after p.told.until p.told.last (report_of (see []).held p.told.page))
either_tells see p (Some name) = (refl, refl, refl)

pub reports_tell : ReportsTell
reports_tell see p = either_tells see p (newest_now (see []).held p.told)
