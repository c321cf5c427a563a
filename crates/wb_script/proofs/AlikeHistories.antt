-- Two histories with the same drawops: what a script's lines read off them is the same.
use Rattle.std.proofs.Common.{◌≡◌, ℕ, Bool, List, [], Option, refl, sym, ap, ◌∙◌, ⊎_elim, eqb-true, Contains, Any, IsPermutation, ◌++◌, map, filter, nat_lt, option_map, is_eq, nat_cmp}
use Rattle.std.specs.Cmp.{nat_cmp_total}
use Rattle.std.specs.declared.cmp.Ordering.TheVariants.{Equal}
use Rattle.std.proofs.Math.Path.{fun_ext}
use Rattle.std.proofs.lemmas.List.Sorted.{Contains-permutation, IsPermutation-sym, list_any-IsPermutation}
use Rattle.wb_names.specs.Values.{NameValue, DrawopValue, MarkValue}
use Rattle.wb_names.specs.Orders.{same_name, same_page, page_cmp}
use Rattle.wb_names.specs.Arrivals.{history_after}
use Rattle.wb_names.specs.History.{IsHeld, HoldsName, highest}
use Rattle.wb_names.specs.declared.name.PageId.{PageId}
use Rattle.wb_names.proofs.Listings.{Contains-filter, Contains-from_filter, Any-from_map, Contains-map}
use Rattle.wb_names.proofs.Orders.{nat_ties, page_total}
use Rattle.wb_codec.specs.declared.datagram.Datagram.{Datagram}
use Rattle.wb_codec.specs.declared.datagram.Datagram.TheVariants.{Draw, Request}
use Rattle.wb_digest.specs.Digest.{digest_of}
use Rattle.wb_digest.proofs.Ordered.{digests_agree, digests_are_one}
use Rattle.wb_display.proofs.Convergence.{converges}
use Rattle.wb_gaps.specs.Answers.{sources_of, top_mark, gaps_of, report_of, pages_of, reports_of}
use Rattle.wb_gaps.specs.declared.page_reports.PageReport.{PageReport}
use Rattle.wb_gaps.proofs.GreatestNumbers.{one_greatest}
use Rattle.wb_gaps.proofs.MissingRanges.{gaps_of_page, only_gaps}
use Rattle.wb_gaps.proofs.PageAnswers.{pages_of_history, only_pages}
use Rattle.wb_gaps.proofs.Rearranged.{gaps_moved, pages_moved}
use Rattle.wb_gaps.proofs.Reports.{greatest_held}
use Rattle.wb_gaps.proofs.Starts.{page_is}
use Rattle.wb_gaps.specs.Sorting.{sorted}
use Rattle.wb_recovery.specs.declared.plan.Action.{Action}
use Rattle.wb_recovery.specs.declared.plan.Action.TheVariants.{Ask, Answer}
use Rattle.wb_keeper.specs.Keeper.{holds}
use Rattle.wb_keeper.specs.Hearing.{asks_for_held}
use Rattle.wb_keeper.specs.Ticks.{drawop_of, sent_for}
use Rattle.wb_keeper.proofs.FoundDrawops.{found_member, found_none}
use Rattle.wb_keeper.proofs.KeptCalls.{holds_or_not}
use Rattle.wb_commands.specs.Answers.{answer_text}
use Rattle.wb_member.specs.Questions.{answer_by}
use Rattle.wb_member.specs.declared.questions.Query.{Query}
use Rattle.wb_member.specs.declared.questions.Query.TheVariants.{Pages}
use Rattle.wb_member.specs.Queries.{view_of}
use Rattle.wb_member.proofs.Queries.{view_of_page}
use Rattle.wb_script.specs.Laws.{AnswersAreFree, PrintsAreFree}
use Rattle.wb_script.proofs.FreeArrivals.{AreAlike, free_on}
use Rattle.wb_script.proofs.Members.{Among, among_both, same_ascending}

any_alike : (P : DrawopValue → Type 0) (one other : List DrawopValue) → IsPermutation one other → Any P one → Any P other
any_alike P one other moved (k, d, lt, is, p) = let c = Contains-permutation one other d moved (k, lt, is) in (c.0, d, c.1, c.2, p)

one_source : (m n : ℕ) → nat_cmp m n ≡ Equal → m ≡ n
one_source m n tie = eqb-true m n (nat_ties m n ∙ ap is_eq tie)

one_page : (p q : PageId) → page_cmp p q ≡ Equal → p ≡ q
one_page p q tie = page_is p q (ap is_eq tie)

abbrev source_of : DrawopValue → ℕ
source_of d = d.name.source

abbrev page_of : DrawopValue → PageId
page_of d = d.name.page

-- the page of a drawop of the one is that of one of the other
mapped_among : (one other : List DrawopValue) → IsPermutation one other → Among (map page_of one) (map page_of other)
mapped_among one other moved page c =
    let from = Any-from_map page_of one page c in
    let d : DrawopValue = from.1 in
    let there = Contains-permutation one other d moved (from.0, from.2, from.3) in
    Contains-map page_of other page (there.0, d, there.1, there.2, from.4)

abbrev is_on : PageId → DrawopValue → Bool
is_on page d = same_page d.name.page page

-- a source of the page in the one is a source of it in the other
sources_among : (one other : List DrawopValue) (page : PageId) → IsPermutation one other → Among (map source_of (filter (is_on page) one)) (map source_of (filter (is_on page) other))
sources_among one other page moved source c =
    let on = Any-from_map source_of (filter (is_on page) one) source c in
    let d : DrawopValue = on.1 in
    let here = Contains-from_filter (is_on page) one d (on.0, on.2, on.3) in
    let there = Contains-filter (is_on page) other d (Contains-permutation one other d moved here.0) here.1 in
    Contains-map source_of (filter (is_on page) other) source (there.0, d, there.1, there.2, on.4)

module _ (one other : List DrawopValue) (a : AreAlike one other) where
  back : IsPermutation other one
  back = IsPermutation-sym one other a.moved

  -- ---- names

  pub same_holds : holds one ≡ holds other
  same_holds = fun_ext (λ name. list_any-IsPermutation (λ (d : DrawopValue). same_name d.name name) one other a.moved)

  same_drawop : (name : NameValue) → drawop_of one name ≡ drawop_of other name
  same_drawop name = ⊎_elim
      (λ (held : HoldsName one name).
      let d : DrawopValue = held.1 in
      let here : Contains one d = (held.0, held.2, held.3) in
      found_member one name d a.once here held.4 ∙ sym (found_member other name d a.again (Contains-permutation one other d a.moved here) held.4))
      (λ (absent : HoldsName one name → ⊥).
      found_none one name absent ∙ sym (found_none other name (λ h. absent (any_alike (λ (d : DrawopValue). d.name ≡ name) other one back h))))
      (holds_or_not one name)

  pub same_sent : (me : ℕ) → sent_for me one ≡ sent_for me other
  same_sent me = fun_ext each where
    each : (action : Action) → sent_for me one action ≡ sent_for me other action
    each (Ask name) = refl
    each (Answer name) = ap (λ (found : Option DrawopValue). option_map Draw found) (same_drawop name)

  pub same_asks : (v : Datagram) → asks_for_held one v ≡ asks_for_held other v
  same_asks (Request asker name) = ap (λ (held : NameValue → Bool). held name) same_holds
  same_asks v = refl

  -- ---- gaps, reports and pages

  pub same_gaps : (page : PageId) (marks : List MarkValue) → gaps_of one page marks ≡ gaps_of other page marks
  same_gaps page marks = only_gaps other page marks (gaps_of one page marks) (gaps_moved one other a.moved page marks (gaps_of one page marks) (gaps_of_page one page marks))

  same_pages : pages_of one ≡ pages_of other
  same_pages = only_pages other (pages_of one) (pages_moved one other a.moved (pages_of one) (pages_of_history one))

  same_highest : (page : PageId) (source : ℕ) → highest page source one ≡ highest page source other
  same_highest page source =
      one_greatest (IsHeld one page source) (IsHeld other page source) _ _ (greatest_held one page source) (greatest_held other page source) (λ n h. any_alike _ one other a.moved h) (λ n h. any_alike _ other one back h)

  pub same_report : (page : PageId) → report_of one page ≡ report_of other page
  unfolding report_of
  same_report page =
      let marks : top_mark one page ≡ top_mark other page = fun_ext (λ source. ap (λ (high : ℕ). let m : MarkValue = record { source = source; high = high } in m) (same_highest page source)) in
      let sources : sources_of one page ≡ sources_of other page =
      same_ascending nat_cmp_total one_source (map source_of (filter (is_on page) one)) (map source_of (filter (is_on page) other)) (sources_among one other page a.moved) (sources_among other one page back) in
      ap (λ (mark : ℕ → MarkValue). filter (λ m. nat_lt 0 m.high) (map mark (sources_of one page))) marks
      ∙ ap (λ (sources : List ℕ). filter (λ m. nat_lt 0 m.high) (map (top_mark other page) sources)) sources

  pub same_reports : reports_of one ≡ reports_of other
  same_reports =
      ap (λ (report : PageId → List MarkValue). map (λ page. let r : PageReport = record { page = page; marks = report page } in r) (pages_of one)) (fun_ext same_report)
      ∙ ap (λ (pages : List PageId). map (λ page. let r : PageReport = record { page = page; marks = report_of other page } in r) pages) same_pages

  -- ---- answers

  same_view : (page : PageId) → view_of one page ≡ view_of other page
  same_view page = converges one other page (view_of one page) (view_of other page) a.moved (view_of_page one page a.once) (view_of_page other page a.again)

  same_digest : (page : PageId) → digest_of one page ≡ digest_of other page
  same_digest page = digests_agree one other page (digest_of one page) (digest_of other page) a.once a.again (λ d on c. Contains-permutation other one d back c) (λ d on c. Contains-permutation one other d a.moved c) (digests_are_one one page a.once).is (digests_are_one other page a.again).is

  same_known : (heard : List PageId) → sorted page_cmp (map page_of one ++ heard) ≡ sorted page_cmp (map page_of other ++ heard)
  same_known heard =
      same_ascending page_total one_page (map page_of one ++ heard) (map page_of other ++ heard)
      (among_both (map page_of one) (map page_of other) heard heard (mapped_among one other a.moved) (λ page c. c))
      (among_both (map page_of other) (map page_of one) heard heard (mapped_among other one back) (λ page c. c))

  -- what is read off a history for an answer
  ruleset same_readings = (same_view, same_gaps, same_report, same_pages, same_known, same_highest, same_digest)

  pub same_answer : (number : ℕ) (marks : PageId → List MarkValue) (heard : List PageId) (query : Query) → answer_by number marks heard one query ≡ answer_by number marks heard other query
  same_answer number marks heard Pages = simp same_readings
  same_answer number marks heard query = search same_readings

-- ---- laws of what is printed

pub answers_are_free : AnswersAreFree
answers_are_free number marks heard one other query a b moved = same_answer one other (record { once = a.once; again = b.once; moved = moved }) number marks heard query

pub prints_are_free : PrintsAreFree
prints_are_free number marks heard cells ds es query few moved clash room = ap answer_text (same_answer (history_after cells [] ds) (history_after cells [] es) (free_on cells cells ds es moved clash room room) number marks heard query)
