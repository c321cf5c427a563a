-- The pages and numbers that a keeper knows of, from what its maps hold and from its calls.
use Rattle.std.proofs.Common.{◌≡◌, ◌≢◌, ℕ, Bool, true, false, cond, List, [], ◌∷◌, ◌++◌, Option, Some, None, refl, ap, ◌∙◌, sym, subst, true≢false, ◌⊎◌, inl, inr, ⊎_elim}
use Rattle.std.specs.Prelude.{Contains, Any, IsPermutation, ◌↔◌, map, max, unwrap_or}
use Rattle.std.specs.BTreeMap.{is_at}
use Rattle.std.specs.Cmp.{eq_by_cmp_equiv}
use Rattle.std.specs.List.{cons_option, dedup, filter_map}
use Rattle.std.specs.List.Sorted.{IsSorted, IsStrictlySortedBy}
use Rattle.std.specs.Map.{lookup, keys_of}
use Rattle.std.specs.Ordering.{is_eq, eq_by_cmp}
use Rattle.std.proofs.lemmas.List.Elements.{Contains-append_cases, Contains-append_left, Contains-append_right}
use Rattle.std.proofs.lemmas.Map.Keys.{IsDistinct-from_sorted}
use Rattle.std.proofs.lemmas.Map.Views.{Contains-from_lookup, lookup-from_Contains}
use Rattle.wb_names.specs.Values.{DrawopValue, MarkValue}
use Rattle.wb_names.specs.Orders.{page_cmp, same_page}
use Rattle.wb_names.specs.declared.name.PageId.{PageId}
use Rattle.wb_names.proofs.Orders.{page_total, same_page-is, page_ties, equality}
use Rattle.wb_names.proofs.Listings.{Contains-cases, Contains-none, Contains-here, Contains-there, lists_from_dedup, lists_same, one_list, Any-from_map, Contains-map}
use Rattle.wb_codec.specs.declared.datagram.Datagram.{Datagram}
use Rattle.wb_codec.specs.declared.datagram.Datagram.TheVariants.{Draw, Session, Request, AskPages, PageState}
use Rattle.wb_gaps.specs.Joining.{joined, joined_at}
use Rattle.wb_gaps.specs.Pages.{ArePages}
use Rattle.wb_gaps.proofs.HeldNumbers.{same_page-here}
use Rattle.wb_gaps.proofs.Sorting.{lists_sorted}
use Rattle.wb_keeper.specs.Hearing.{marks_in, marks_reported, marks_heard}
use Rattle.wb_keeper.specs.Keeper.{KeeperCall, SetDelay, SetConstants, Hear, Arrive, Miss, GoOn, Report, GiveUp, is_own}
use Rattle.wb_keeper.specs.Keeping.{marks_at}
use Rattle.wb_keeper.specs.Known.{AreKnownPages, page_where, page_in, page_named, pages_heard, known_pages, KnownPagesAreKnown}

abbrev page_of : DrawopValue → PageId
page_of d = d.name.page

-- ---- the pages that are heard of, by the calls

-- a page is heard of
abbrev IsHeard : List MarkValue → Type 0
IsHeard marks = marks ≢ []

-- what one datagram tells of a page
named_in : (p q : PageId) (marks : List MarkValue) → (page_where p marks ≡ Some q) ↔ IsHeard (cond (same_page p q) marks [])
named_in p q [] = from (same_page p q) where
  from : (b : Bool) → (None ≡ Some q) ↔ IsHeard (cond b [] [])
  from true = (λ c. absurd cc, λ h. absurd (h refl))
  from false = (λ c. absurd cc, λ h. absurd (h refl))
named_in p q (m ∷ marks) = from (same_page p q) refl where
  from : (b : Bool) → same_page p q ≡ b → (Some p ≡ Some q) ↔ IsHeard (cond b (m ∷ marks) [])
  from true e = (λ c. λ h. absurd cc, λ h. ap (λ (r : PageId). Some r) (same_page-is p q e))
  from false e = (λ c. let is : p ≡ q = cc in absurd (true≢false (sym (same_page-here p q is) ∙ e)), λ h. absurd (h refl))

none_named : (q : PageId) → (None ≡ Some q) ↔ IsHeard []
none_named q = (λ c. absurd cc, λ h. absurd (h refl))

in_datagram : (q : PageId) (v : Datagram) → (page_in v ≡ Some q) ↔ IsHeard (marks_in q v)
in_datagram q (Session sender sent p marks echoes) = named_in p q marks
in_datagram q (PageState sender p marks) = named_in p q marks
in_datagram q (Draw d) = none_named q
in_datagram q (Request asker name) = none_named q
in_datagram q (AskPages asker) = none_named q

in_call : (me : ℕ) (q : PageId) (call : KeeperCall) → (page_named me call ≡ Some q) ↔ IsHeard (marks_reported me q call)
in_call me q (Hear now v word held) = from (is_own me v) where
  from : (b : Bool) → (cond b None (page_in v) ≡ Some q) ↔ IsHeard (cond b [] (marks_in q v))
  from true = none_named q
  from false = in_datagram q v
in_call me q (SetDelay source micros) = none_named q
in_call me q (SetConstants constants) = none_named q
in_call me q (Arrive now held) = none_named q
in_call me q (Miss now names words) = none_named q
in_call me q (GoOn now words stopped) = none_named q
in_call me q (Report now) = none_named q
in_call me q (GiveUp now name asked) = none_named q

joined_some : (a b : List MarkValue) → IsHeard (joined a b) ↔ (IsHeard a ⊎ IsHeard b)
joined_some [] b = (λ h. inr h, λ o. ⊎_elim (λ (h : IsHeard []). absurd (h refl)) (λ (h : IsHeard b). h) o)
joined_some (m ∷ ms) b = (λ h. inl (λ e. absurd cc), λ o. some b) where
  some : (b : List MarkValue) → IsHeard (joined (m ∷ ms) b)
  some [] = λ e. absurd cc
  some (n ∷ ns) = λ e. either _ _ e where
    either : (x y : Bool) → cond x (m ∷ joined ms (n ∷ ns)) (cond y (n ∷ joined_at m ms (joined ms) ns) ((record { source = m.source; high = max m.high n.high }) ∷ joined ms ns)) ≡ [] → ⊥
    either true y e = cc
    either false true e = cc
    either false false e = cc

-- what a list is with one page more, or with none
with_page : (o : Option PageId) (pages : List PageId) (q : PageId) → Contains (cons_option o pages) q ↔ ((o ≡ Some q) ⊎ Contains pages q)
with_page None pages q = (λ c. inr c, λ h. ⊎_elim (λ (e : None ≡ Some q). absurd cc) (λ (c : Contains pages q). c) h)
with_page (Some p) pages q = (
  λ c. ⊎_elim (λ (e : p ≡ q). inl (ap (λ (r : PageId). Some r) e)) (λ (d : Contains pages q). inr d) (Contains-cases p q pages c),
  λ h. ⊎_elim (λ (e : Some p ≡ Some q). let is : p ≡ q = cc in subst (Contains (p ∷ pages)) is (Contains-here p pages)) (λ (c : Contains pages q). Contains-there p q pages c) h,
)

by_calls : (me : ℕ) (calls : List KeeperCall) (q : PageId) → Contains (pages_heard me calls) q ↔ IsHeard (marks_heard me calls q)
by_calls me [] q = (λ c. absurd (Contains-none q c), λ h. absurd (h refl))
by_calls me (call ∷ calls) q =
    let one = in_call me q call in
    let rest = by_calls me calls q in
    let more = with_page (page_named me call) (pages_heard me calls) q in
    let both = joined_some (marks_reported me q call) (marks_heard me calls q) in (
      λ c. both.1 (⊎_elim (λ (h : page_named me call ≡ Some q). inl (one.0 h)) (λ (h : Contains (pages_heard me calls) q). inr (rest.0 h)) (more.0 c)),
      λ h. more.1 (⊎_elim (λ (g : IsHeard (marks_reported me q call)). inl (one.1 g)) (λ (g : IsHeard (marks_heard me calls q)). inr (rest.1 g)) (both.0 h)),
    )

-- ---- the known pages

-- the pages of drawops, and pages of which marks are heard
either_page : (heard : PageId → List MarkValue) (history : List DrawopValue) (pages others : List PageId) → ((q : PageId) → Contains pages q ↔ Any (λ (d : DrawopValue). page_of d ≡ q) history) → ((q : PageId) → Contains others q ↔ IsHeard (heard q))
    → (q : PageId) → Contains (pages ++ others) q ↔ (Any (λ (d : DrawopValue). page_of d ≡ q) history ⊎ IsHeard (heard q))
either_page heard history pages others drawn marked q = (
  λ c. ⊎_elim (λ (h : Contains pages q). inl ((drawn q).0 h)) (λ (h : Contains others q). inr ((marked q).0 h)) (Contains-append_cases pages others q c),
  λ o. ⊎_elim (λ (h : Any (λ (d : DrawopValue). page_of d ≡ q) history). Contains-append_left pages others q ((drawn q).1 h)) (λ (h : IsHeard (heard q)). Contains-append_right pages others q ((marked q).1 h)) o,
)

pub known_pages_are_known : KnownPagesAreKnown
known_pages_are_known me calls history =
    let all = map page_of history ++ pages_heard me calls in
    let each = either_page (marks_heard me calls) history (map page_of history) (pages_heard me calls) (λ q. (Any-from_map page_of history q, Contains-map page_of history q)) (by_calls me calls) in
    lists_same page_total (Contains all) _ _ (λ q. (each q).0) (λ q. (each q).1)
    (lists_sorted page_total all (λ p q _ _ tie. same_page-is p q (page_ties p q ∙ ap is_eq tie)))

-- what a keeper lists, once it is sorted and each page is kept once
pub listed : (heard : PageId → List MarkValue) (history : List DrawopValue) (pages others all sorted left : List PageId) → ArePages history pages → ((q : PageId) → Contains others q ↔ IsHeard (heard q)) → all ≡ pages ++ others
    → IsPermutation all sorted → IsSorted page_cmp sorted → left ≡ dedup same_page sorted → AreKnownPages heard history left
listed heard history pages others all sorted left drawn marked is moved rises once =
    subst (AreKnownPages heard history) (sym once)
    (lists_same page_total (Contains all) _ _
    (λ q h. (either_page heard history pages others drawn.members marked q).0 (subst (λ (ps : List PageId). Contains ps q) is h))
    (λ q h. subst (λ (ps : List PageId). Contains ps q) (sym is) ((either_page heard history pages others drawn.members marked q).1 h))
    (lists_from_dedup page_total (equality page_total same_page page_ties) same_page-is page_ties all sorted moved rises))

-- a keeper that stands for calls
pub by_keeper : (me : ℕ) (calls : List KeeperCall) (heard : PageId → List MarkValue) (history : List DrawopValue) (pages : List PageId) → ((page : PageId) → heard page ≡ marks_heard me calls page) → AreKnownPages heard history pages → pages ≡ known_pages me calls history
by_keeper me calls heard history pages same are =
    one_list page_total _ pages (known_pages me calls history)
    (lists_same page_total _ (λ q. Any (λ (d : DrawopValue). page_of d ≡ q) history ⊎ IsHeard (marks_heard me calls q)) _
    (λ q o. ⊎_elim (λ (h : Any (λ (d : DrawopValue). page_of d ≡ q) history). inl h) (λ (h : IsHeard (heard q)). inr (subst IsHeard (same q) h)) o)
    (λ q o. ⊎_elim (λ (h : Any (λ (d : DrawopValue). page_of d ≡ q) history). inl h) (λ (h : IsHeard (marks_heard me calls q)). inr (subst IsHeard (sym (same q)) h)) o)
    are)
    (known_pages_are_known me calls history)

-- ---- the pages in a keeper's map

abbrev pub page_at : PageId × List MarkValue → Option PageId
page_at p = page_where p.0 p.1

from_pages : (entries : List (PageId × List MarkValue)) (q : PageId) → Contains (filter_map page_at entries) q → (m : MarkValue) × (ms : List MarkValue) × Contains entries (q, m ∷ ms)
from_pages [] q c = absurd (Contains-none q c)
from_pages ((p, []) ∷ entries) q c = let r = from_pages entries q c in (r.0, r.1, Contains-there (p, []) (q, r.0 ∷ r.1) entries r.2)
from_pages ((p, m ∷ ms) ∷ entries) q c = ⊎_elim
    (λ (e : p ≡ q).
    let here : Contains ((p, m ∷ ms) ∷ entries) (q, m ∷ ms) = subst (λ (r : PageId). Contains ((p, m ∷ ms) ∷ entries) (r, m ∷ ms)) e (Contains-here (p, m ∷ ms) entries) in
    let r : (n : MarkValue) × (ns : List MarkValue) × Contains ((p, m ∷ ms) ∷ entries) (q, n ∷ ns) = (m, ms, here) in
    r)
    (λ (h : Contains (filter_map page_at entries) q).
    let f = from_pages entries q h in
    let r : (n : MarkValue) × (ns : List MarkValue) × Contains ((p, m ∷ ms) ∷ entries) (q, n ∷ ns) = (f.0, f.1, Contains-there (p, m ∷ ms) (q, f.0 ∷ f.1) entries f.2) in
    r)
    (Contains-cases p q (filter_map page_at entries) c)

to_pages : (entries : List (PageId × List MarkValue)) (q : PageId) (m : MarkValue) (ms : List MarkValue) → Contains entries (q, m ∷ ms) → Contains (filter_map page_at entries) q
to_pages [] q m ms c = absurd (Contains-none (q, m ∷ ms) c)
to_pages ((p, []) ∷ entries) q m ms c = ⊎_elim
    (λ (e : (p, []) ≡ (q, m ∷ ms)). let f : [] ≡ m ∷ ms = ap (λ (x : PageId × List MarkValue). x.1) e in absurd cc)
    (λ (h : Contains entries (q, m ∷ ms)). to_pages entries q m ms h)
    (Contains-cases (p, []) (q, m ∷ ms) entries c)
to_pages ((p, n ∷ ns) ∷ entries) q m ms c = ⊎_elim
    (λ (e : (p, n ∷ ns) ≡ (q, m ∷ ms)). subst (Contains (p ∷ filter_map page_at entries)) (ap (λ (x : PageId × List MarkValue). x.0) e) (Contains-here p (filter_map page_at entries)))
    (λ (h : Contains entries (q, m ∷ ms)). Contains-there p q (filter_map page_at entries) (to_pages entries q m ms h))
    (Contains-cases (p, n ∷ ns) (q, m ∷ ms) entries c)

page_is : (p q : PageId) → eq_by_cmp page_cmp p q ≡ true → p ≡ q
page_is p q e = same_page-is p q (page_ties p q ∙ e)

-- the pages of which a keeper's map has some mark
pub marked : (entries : List (PageId × List MarkValue)) → IsStrictlySortedBy page_cmp (keys_of entries) → (q : PageId) → Contains (filter_map page_at entries) q ↔ (marks_at entries q ≢ [])
marked entries rises q = (has, some (lookup (is_at (page_cmp q)) entries) refl) where
  has : Contains (filter_map page_at entries) q → marks_at entries q ≢ []
  has c =
      let r = from_pages entries q c in
      let found : lookup (is_at (page_cmp q)) entries ≡ Some (r.0 ∷ r.1) = lookup-from_Contains (eq_by_cmp_equiv page_total) q (r.0 ∷ r.1) entries (IsDistinct-from_sorted page_cmp (keys_of entries) rises) r.2 in
      λ e. let f : r.0 ∷ r.1 ≡ [] = ap (λ (o : Option (List MarkValue)). unwrap_or o []) (sym found) ∙ e in absurd cc

  some : (o : Option (List MarkValue)) → lookup (is_at (page_cmp q)) entries ≡ o → unwrap_or o [] ≢ [] → Contains (filter_map page_at entries) q
  some None e h = absurd (h refl)
  some (Some []) e h = absurd (h refl)
  some (Some (m ∷ ms)) e h = to_pages entries q m ms (Contains-from_lookup page_is q (m ∷ ms) entries e)
