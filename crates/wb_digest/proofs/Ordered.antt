-- There is one order of a page's drawops.
use Rattle.std.proofs.lemmas.Grind.{common_steps}
use Rattle.std.proofs.Common.{◌≡◌, Bool, false, List, refl, ap, sym, ◌∙◌, get_or, arith}
use Rattle.std.specs.Prelude.{AllPairs, ◌≢◌}
use Rattle.std.specs.Cmp.{IsTotalOrder}
use Rattle.std.specs.Ordering.{eq_by_cmp}
use Rattle.std.proofs.lemmas.Cmp.{on_total}
use Rattle.std.proofs.lemmas.Bool.{false_from_ne_true}
use Rattle.std.proofs.lemmas.List.Kept.{AllPairs-filter}
use Rattle.sha2.specs.Sha256.{sha256}
use Rattle.wb_names.specs.Values.{NameValue, DrawopValue}
use Rattle.wb_names.specs.History.{IsHistory}
use Rattle.wb_names.specs.Orders.{same_page, same_name, name_cmp}
use Rattle.wb_names.specs.declared.name.PageId.{PageId}
use Rattle.wb_names.proofs.Listings.{one_list, lists_from_sorted, lists_same}
use Rattle.wb_names.proofs.Orders.{name_total, same_name-is, same_page-is, page_ties, nat_ties, then_is}
use Rattle.wb_display.specs.Laws.{on_page}
use Rattle.wb_gaps.specs.Sorting.{sorted}
use Rattle.wb_digest.specs.Digest.{name_order, IsDigest, digest_of, hashed_text}
use Rattle.wb_digest.specs.Laws.{DigestsAgree, DigestsAreOne}
use Rattle.wb_digest.proofs.Sorting.{ascending, moved}

pub order_total : IsTotalOrder name_order
order_total = on_total (λ (d : DrawopValue). d.name) name_total

-- names that tie are one
name_ties : (m n : NameValue) → same_name m n ≡ eq_by_cmp name_cmp m n
name_ties m n = grind (arith, common_steps, nat_ties, page_ties, then_is)

apart : (history : List DrawopValue) (page : PageId) → IsHistory history → AllPairs (λ x y. eq_by_cmp name_order x y ≡ false) (on_page page history)
apart history page names i j d ij jn =
    let one : NameValue = (get_or (on_page page history) i d).name in
    let other : NameValue = (get_or (on_page page history) j d).name in
    let differ = AllPairs-filter (λ (x y : DrawopValue). x.name ≢ y.name) (λ d. same_page d.name.page page) history names i j d ij jn in
    false_from_ne_true _ (λ tie. differ (same_name-is one other (name_ties one other ∙ tie)))

pub digests_agree : DigestsAgree
digests_agree one other page digest again names others back over o p =
    let of_page : DrawopValue → Bool = λ d. same_page d.name.page page in
    let mine = lists_from_sorted order_total of_page one o.drawops (apart one page names) o.in_order.all o.in_order.ascending in
    let theirs = lists_from_sorted order_total of_page other p.drawops (apart other page others) p.in_order.all p.in_order.ascending in
    let here = lists_same order_total _ _ p.drawops (λ d h. (back d (same_page-is _ _ h.1) h.0, h.1)) (λ d h. (over d (same_page-is _ _ h.1) h.0, h.1)) theirs in
    o.is ∙ ap (λ (ds : List DrawopValue). sha256 (hashed_text ds)) (one_list order_total _ o.drawops p.drawops mine here) ∙ sym p.is

is_digest : (history : List DrawopValue) (page : PageId) → IsHistory history → IsDigest history page (digest_of history page)
unfolding digest_of
is_digest history page names = record {
  drawops = sorted name_order (on_page page history);
  in_order = record { all = moved order_total (on_page page history) (apart history page names); ascending = ascending order_total (on_page page history) };
  is = refl;
}

pub digests_are_one : DigestsAreOne
digests_are_one history page names =
    let is = is_digest history page names in
    record { is = is; only = λ digest other. digests_agree history history page digest (digest_of history page) names names (λ d at c. c) (λ d at c. c) other is }
