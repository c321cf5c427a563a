-- What a host asks for stays asked for, or another missing number is, step by step: as it wants names, leaps, takes turns, and does what is due.
use Rattle.std.proofs.Common.{◌≡◌, ℕ, zero, suc, ◌+◌, ◌-◌, ◌*◌, ◌≤◌, Bool, true, false, cond, List, [], ◌∷◌, ◌∙◌, Option, Some, None, ap, append-nil, arith, inl, inr, length, map, max, refl, subst, sym, true≢false, ⊎_elim}
use Rattle.std.specs.Prelude.{◌⊎◌, ◌||◌, ◌&&◌, ◌%◌, All, Contains, is_some, nat_le, not, take}
use Rattle.std.proofs.lemmas.Bool.{false_from_ne_true, le-leb, leb-true}
use Rattle.std.proofs.lemmas.List.Elements.{All-head, All-tail}
use Rattle.std.proofs.lemmas.Nat.{mod_below}
use Rattle.std.proofs.Math.Nat.{le-add_right}
use Rattle.wb_names.specs.Values.{DrawopValue, MarkValue, NameValue}
use Rattle.wb_names.specs.declared.name.PageId.{PageId}
use Rattle.wb_names.proofs.Listings.{Contains-cases, Contains-none}
use Rattle.wb_codec.specs.declared.datagram.Datagram.TheVariants.{AskPages}
use Rattle.wb_gaps.specs.Answers.{pages_of, report_of}
use Rattle.wb_gaps.specs.Gaps.{IsMissing}
use Rattle.wb_gaps.specs.Holes.{begins_after, hole_after, holes_of}
use Rattle.wb_gaps.specs.Starts.{start}
use Rattle.wb_gaps.specs.declared.holes.Hole.{Hole}
use Rattle.wb_keeper.specs.Keeper.{holds}
use Rattle.wb_member.specs.Judged.{is_full}
use Rattle.wb_member.specs.Opened.{Opened, asks_for, present}
use Rattle.wb_policy.specs.Credit.{has_credit, leaves_some}
use Rattle.wb_policy.specs.Leaps.{far_in, far_name}
use Rattle.wb_policy.specs.Policy.{Policy, after_answer, after_question, after_beat, after_leaping, after_turn, after_wanting, in_next_leaps, in_next_round}
use Rattle.wb_policy.specs.Questions.{is_due}
use Rattle.wb_policy.specs.Reports.{newest_now, rest_after}
use Rattle.wb_policy.specs.Turns.{name_in, nowhere, number_in}
use Rattle.wb_policy.specs.Wanting.{goes_on, is_paid, passes_on, young_count}
use Rattle.wb_policy.specs.declared.leaps.Leaps.{Leaps}
use Rattle.wb_policy.specs.declared.limits.TheConstants.{COST}
use Rattle.wb_policy.specs.declared.turns.Turns.{Turns}
use Rattle.wb_policy.proofs.Cycle.{found_at}
use Rattle.wb_policy.proofs.FilledHoles.{hole_filled}
use Rattle.wb_policy.proofs.HolesRise.{holes_rise}
use Rattle.wb_keeping.specs.Fairness.{AnswersWhatIsHeld}
use Rattle.wb_keeping.specs.Kept.{Doing, Line, Says, Transition, and_then, answers, asks_pages, covers, is_begun, is_unasked, leap, leap_to, leaps_on, reports, reports_due, reports_either, reports_rest, state_of, still, timed, turn, turn_by_clock, turn_if, turn_to, turns_on, turns_past, want, want_near}
use Rattle.wb_keeping.specs.Performing.{Keeping, after_doing, sees, view_of}
use Rattle.wb_keeping.specs.Views.{View, is_asked, is_known, level, holds as holds_by, is_full as is_full_by}
use Rattle.wb_keeping.proofs.EachLine.{want_each}
use Rattle.wb_keeping.proofs.EachStep.{doing, having_done, leaps_on_hold, turns_past_hold, with_policy}
use Rattle.wb_keeping.proofs.Performed.{then_after}
use Rattle.wb_keeping.proofs.Saying.{says_after}
use Rattle.wb_keeping.proofs.StandingTimers.{stands_asked}
use Rattle.wb_keeping.proofs.Wanted.{begun as wanted_begins, is_not_asked_for, is_wanted_here, leaps_end, leaps_go_on, lines_wanted, no_leaps, no_turns, turns_end, turns_go_on}
use Rattle.wb_keeping.proofs.WantedNames.{is_asked_then, wanted_is_asked}
use Rattle.wb_kept_progress.specs.LeadsOn.{AsksForMissing, IsMissingAt}
use Rattle.wb_kept_progress.proofs.InTurn.{owed_r, reported, to_turn, turned_there}
use Rattle.wb_kept_progress.proofs.Leaving.{answers_on}
use Rattle.wb_kept_progress.proofs.Lines.{IsSmall, are_small, does_rest}
use Rattle.wb_kept_progress.proofs.TurnNames.{missing_in, number_above, number_below, some_first}
use Rattle.wb_kept_progress.proofs.Turning.{in_hole, missing_is_lacked}
use Rattle.wb_kept_progress.proofs.WantedIn.{CostsMore, IsAskedIn, MayBeWanted, asked_first, asked_second, costs, costs_both, costs_nothing, same_may}

-- ---- a name that is wanted

-- so from another policy on
with_another : (p : Policy) (k : Keeping) → AsksForMissing k → AsksForMissing (with_policy p k)
with_another p k asks = record { name = asks.name; missing = asks.missing; asked = asks.asked }

module _ (name : NameValue) (anew : Bool) (k : Keeping) where
  abbrev v : View
  v = view_of k.host

  abbrev so : Bool
  so = is_wanted_here name anew (sees k.host) k.policy

  abbrev done : Bool → Keeping
  done b =
      let wanted : Doing = record { policy = after_wanting (present k.host) k.policy; lines = lines_wanted name anew (sees k.host) k.policy } in
      having_done (cond b wanted (still (sees k.host) k.policy)) k

  pub want_holds : (after_doing (want name anew) k).host.is.held ≡ k.host.is.held
  want_holds = (does_rest (want name anew) (want_each IsSmall are_small name anew) k).held

  pub want_stands : AnswersWhatIsHeld k.host → so ≡ true → asks_for name (after_doing (want name anew) k).host ≡ true
  want_stands answering e =
      stands_asked (after_doing (want name anew) k).host name (is_asked_then name anew k answering e)

  missing_then : IsMissingAt k name → IsMissingAt (after_doing (want name anew) k) name
  missing_then missing = subst (λ (held : List DrawopValue). IsMissing held name.page [] name.source name.seq) (sym want_holds) missing

  begun_is_so : is_begun (want name anew (sees k.host) k.policy) ≡ true → so ≡ true
  begun_is_so has_begun = by so refl where
    by : (b : Bool) → so ≡ b → so ≡ true
    by true e = e
    by false e = absurd (true≢false (sym has_begun ∙ ap is_begun (is_not_asked_for name anew (sees k.host) k.policy e)))

  -- it was asked for
  want_begins : AnswersWhatIsHeld k.host → IsMissingAt k name → is_begun (want name anew (sees k.host) k.policy) ≡ true → AsksForMissing (after_doing (want name anew) k)
  want_begins answering missing has_begun = record { name = name; missing = missing_then missing; asked = want_stands answering (begun_is_so has_begun) }

  -- it has a timer, or another missing number has
  want_leads : AnswersWhatIsHeld k.host → IsMissingAt k name → AsksForMissing k → AsksForMissing (after_doing (want name anew) k)
  want_leads answering missing asks = by so refl where
    by : (b : Bool) → so ≡ b → AsksForMissing (done b)
    by true e = subst (λ (b : Bool). AsksForMissing (done b)) e (record { name = name; missing = missing_then missing; asked = want_stands answering e })
    by false e = asks

  -- or nothing is spent
  want_spends : AnswersWhatIsHeld k.host → IsMissingAt k name → AsksForMissing (after_doing (want name anew) k) ⊎ ((after_doing (want name anew) k).policy.owed ≤ k.policy.owed)
  want_spends answering missing = by so refl where
    by : (b : Bool) → so ≡ b → AsksForMissing (done b) ⊎ ((done b).policy.owed ≤ k.policy.owed)
    by true e = inl (subst (λ (b : Bool). AsksForMissing (done b)) e (record { name = name; missing = missing_then missing; asked = want_stands answering e }))
    by false e = inr (omega arith)

-- where there is credit, it has one
want_starts : (name : NameValue) (k : Keeping) → AnswersWhatIsHeld k.host → is_full k.host ≡ false → has_credit k.policy.owed (present k.host) ≡ true → IsMissingAt k name → AsksForMissing (after_doing (want name true) k)
want_starts name k answering room credit missing = record {
  name = name;
  missing = missing_then name true k missing;
  asked = stands_asked (after_doing (want name true) k).host name (wanted_is_asked name true k answering (missing_is_lacked k.host.is.held name missing) room credit);
}

-- ---- neighbours

unasked : (held asked : Bool) → not (held || asked) ≡ true → (held ≡ false) × (asked ≡ false)
unasked true asked e = absurd (true≢false (sym e))
unasked false true e = absurd (true≢false (sym e))
unasked false false e = (refl, refl)

-- each name is held, or missing
abbrev pub AreBelow : List DrawopValue → List NameValue → Type 0
AreBelow held names = All (λ (n : NameValue). holds held n ≡ false → IsMissing held n.page [] n.source n.seq) names

module _ (name : NameValue) (names : List NameValue) (k : Keeping) where
  abbrev by_near : Bool → Bool → Keeping
  by_near some begun =
      let see = sees k.host in
      let p = k.policy in
      having_done (cond some (cond begun (and_then (want name false) (want_near names) see p) (still see p)) (want_near names see p)) k

  abbrev some_unasked : Bool
  some_unasked = is_unasked (view_of k.host) name

  abbrev next : Keeping
  next = after_doing (want name false) k

  lacks : some_unasked ≡ true → holds k.host.is.held name ≡ false
  lacks e = (unasked (holds_by (view_of k.host) name) (is_asked (view_of k.host) name) e).0

  below_first : AreBelow k.host.is.held (name ∷ names) → some_unasked ≡ true → IsMissingAt k name
  below_first below e = All-head (λ (n : NameValue). holds k.host.is.held n ≡ false → IsMissing k.host.is.held n.page [] n.source n.seq) name names below (lacks e)

  below_rest : AreBelow k.host.is.held (name ∷ names) → AreBelow k.host.is.held names
  below_rest below = All-tail (λ (n : NameValue). holds k.host.is.held n ≡ false → IsMissing k.host.is.held n.page [] n.source n.seq) name names below

  below_next : AreBelow k.host.is.held (name ∷ names) → AreBelow next.host.is.held names
  below_next below = subst (λ (held : List DrawopValue). AreBelow held names) (sym (want_holds name false k)) (below_rest below)

  then_near : AsksForMissing (after_doing (want_near names) next) → AsksForMissing (after_doing (and_then (want name false) (want_near names)) k)
  then_near asks = subst AsksForMissing (sym (then_after (want name false) (want_near names) k)) asks

pub near_leads : (names : List NameValue) (k : Keeping) → AreBelow k.host.is.held names → AnswersWhatIsHeld k.host → AsksForMissing k → AsksForMissing (after_doing (want_near names) k)
near_leads [] k below answers_held asks = asks
near_leads (name ∷ names) k below answers_held asks = by (near_leads names) (some_unasked name names k) refl (is_begun (want name false (sees k.host) k.policy)) where
  by : ((m : Keeping) → AreBelow m.host.is.held names → AnswersWhatIsHeld m.host → AsksForMissing m → AsksForMissing (after_doing (want_near names) m)) → (some : Bool) → some_unasked name names k ≡ some → (begun : Bool)
      → AsksForMissing (by_near name names k some begun)
  by rest false e begun = rest k (below_rest name names k below) answers_held asks
  by rest true e false = asks
  by rest true e true =
      then_near name names k (rest (next name names k) (below_next name names k below) (answers_on (want name false) k answers_held) (want_leads name false k answers_held (below_first name names k below e) asks))

-- one is asked for, or nothing is done
pub near_starts : (names : List NameValue) (k : Keeping) → AreBelow k.host.is.held names → AnswersWhatIsHeld k.host → AsksForMissing (after_doing (want_near names) k) ⊎ (after_doing (want_near names) k ≡ k)
near_starts [] k below answers_held = inr refl
near_starts (name ∷ names) k below answers_held = by (near_starts names) (some_unasked name names k) refl (is_begun (want name false (sees k.host) k.policy)) refl where
  by : ((m : Keeping) → AreBelow m.host.is.held names → AnswersWhatIsHeld m.host → AsksForMissing (after_doing (want_near names) m) ⊎ (after_doing (want_near names) m ≡ m)) → (some : Bool) → some_unasked name names k ≡ some
      → (begun : Bool) → is_begun (want name false (sees k.host) k.policy) ≡ begun → AsksForMissing (by_near name names k some begun) ⊎ (by_near name names k some begun ≡ k)
  by rest false e begun f = rest k (below_rest name names k below) answers_held
  by rest true e false f = inr refl
  by rest true e true f =
      inl (then_near name names k (near_leads names (next name names k) (below_next name names k below) (answers_on (want name false) k answers_held) (want_begins name false k answers_held (below_first name names k below e) f)))

-- ---- as far as credit goes

-- credit is short for what comes last
abbrev pub RunsShort : Keeping → Type 0
RunsShort k = leaves_some k.policy.owed (present k.host) ≡ false

short_then : (owed owes now : ℕ) → owed ≤ owes → leaves_some owed now ≡ false → leaves_some owes now ≡ false
short_then owed owes now le short = false_from_ne_true (leaves_some owes now) (λ e.
    let few = leb-true (max owes now - now) (47 * COST) e in
    true≢false (sym (le-leb (max owed now - now) (47 * COST) (omega (arith, few, le))) ∙ short))

pub stays_short : (k m : Keeping) → CostsMore k m → RunsShort k → RunsShort m
stays_short k m costs short = short_then k.policy.owed m.policy.owed (present m.host) costs.owed (ap (leaves_some k.policy.owed) costs.now ∙ short)

-- what is not paid, known or not
unpaid_is_short : (known : Bool) (owed now : ℕ) → is_paid known owed now ≡ false → leaves_some owed now ≡ false
unpaid_is_short false owed now e = e
unpaid_is_short true owed now e = false_from_ne_true (leaves_some owed now) (λ few.
    let le = leb-true (max owed now - now) (47 * COST) few in
    true≢false (sym (le-leb (max owed now - now) (63 * COST) (omega (arith, le))) ∙ e))

-- nothing else keeps it back
keeps_back : (held full on paid : Bool) → held ≡ false → full ≡ false → on ≡ false → (not held && (not full && (not on && paid))) ≡ false → paid ≡ false
keeps_back true full on paid h f o e = absurd (true≢false h)
keeps_back false true on paid h f o e = absurd (true≢false f)
keeps_back false false true paid h f o e = absurd (true≢false o)
keeps_back false false false paid h f o e = e

no_timer : (covered : Bool) (o : Option ℕ) → is_some o ≡ false → goes_on false covered o ≡ false
no_timer covered None e = refl
no_timer covered (Some times) e = absurd (true≢false e)

or_second : (held asked : Bool) → held ≡ false → not (held || asked) ≡ false → asked ≡ true
or_second true asked h e = absurd (true≢false h)
or_second false true h e = refl
or_second false false h e = absurd (true≢false e)

-- as another transition does it
pub asked_as : (n : NameValue) (does other : Transition) (k : Keeping) → does (sees k.host) k.policy ≡ other (sees k.host) k.policy → IsAskedIn n other k → IsAskedIn n does k
asked_as n does other k same a = record { before = a.before; later = a.later; lines = ap (λ (d : Doing). d.lines) same ∙ a.lines; stands = a.stands }

short_as : (does other : Transition) (k : Keeping) → does (sees k.host) k.policy ≡ other (sees k.host) k.policy → RunsShort (after_doing other k) → RunsShort (after_doing does k)
short_as does other k same short = subst (λ (d : Doing). RunsShort (having_done d k)) (sym same) short

abbrev pub NearIsAsked : NameValue → List NameValue → Keeping → Type 0
NearIsAsked n names k = IsAskedIn n (want_near names) k ⊎ RunsShort (after_doing (want_near names) k)

module _ (name : NameValue) (names : List NameValue) (k : Keeping) (n : NameValue) (may : MayBeWanted k n) where
  abbrev see : List Line → View
  see = sees k.host

  abbrev does_near : Bool → Bool → Doing
  does_near some begun = cond some (cond begun (and_then (want name false) (want_near names) see k.policy) (still see k.policy)) (want_near names see k.policy)

  abbrev is_first : Bool
  is_first = is_begun (want name false see k.policy)

  near_is : (some begun : Bool) → some_unasked name names k ≡ some → is_first ≡ begun → want_near (name ∷ names) see k.policy ≡ does_near some begun
  near_is some begun e f = ap (λ (b : Bool). does_near b is_first) e ∙ ap (does_near some) f

  -- it was asked for before
  passes : some_unasked name names k ≡ false → (name ≡ n) ⊎ Contains names n → (Contains names n → NearIsAsked n names k) → NearIsAsked n (name ∷ names) k
  passes e among rest = ⊎_elim
      (λ (same : name ≡ n).
      let held : holds_by (view_of k.host) name ≡ false = subst (λ (x : NameValue). holds k.host.is.held x ≡ false) (sym same) may.lacks in
      let asked = or_second (holds_by (view_of k.host) name) (is_asked (view_of k.host) name) held e in
      inl (record { before = []; later = (want_near (name ∷ names) see k.policy).lines; lines = refl; stands = subst (λ (x : NameValue). asks_for x k.host ≡ true) same (stands_asked k.host name asked) }))
      (λ (there : Contains names n). ⊎_elim
      (λ (a : IsAskedIn n (want_near names) k). inl (asked_as n (want_near (name ∷ names)) (want_near names) k (near_is false is_first e refl) a))
      (λ (short : RunsShort (after_doing (want_near names) k)). inr (short_as (want_near (name ∷ names)) (want_near names) k (near_is false is_first e refl) short))
      (rest there))
      among

  -- it is asked for
  goes : some_unasked name names k ≡ true → is_first ≡ true → (name ≡ n) ⊎ Contains names n → (Contains names n → NearIsAsked n names (next name names k)) → NearIsAsked n (name ∷ names) k
  goes e f among rest = ⊎_elim
      (λ (same : name ≡ n).
      let lines = (want name false see k.policy).lines in
      inl (asked_as n (want_near (name ∷ names)) both k is (asked_first n (want name false) (want_near names) k
      (record { before = lines; later = []; lines = sym (append-nil lines); stands = subst (λ (x : NameValue). asks_for x (next name names k).host ≡ true) same (want_stands name false k may.answers_held (begun_is_so name false k f)) }))))
      (λ (there : Contains names n). ⊎_elim
      (λ (a : IsAskedIn n (want_near names) (next name names k)). inl (asked_as n (want_near (name ∷ names)) both k is (asked_second n (want name false) (want_near names) k a)))
      (λ (short : RunsShort (after_doing (want_near names) (next name names k))).
      inr (short_as (want_near (name ∷ names)) both k is (subst RunsShort (sym (then_after (want name false) (want_near names) k)) short)))
      (rest there))
      among where
        both : Transition
        both = and_then (want name false) (want_near names)

        is : want_near (name ∷ names) see k.policy ≡ both see k.policy
        is = near_is true true e f

  -- it is not, for want of credit
  ends : some_unasked name names k ≡ true → is_first ≡ false → NearIsAsked n (name ∷ names) k
  ends e f =
      let v = view_of k.host in
      let none = unasked (holds_by v name) (is_asked v name) e in
      let paid = keeps_back (holds_by v name) (is_full_by v) (goes_on false (covers v k.policy) (level v name)) (is_paid (is_known v name.source) k.policy.owed v.now) none.0 may.room (no_timer (covers v k.policy) (level v name) none.1) (not_so (is_wanted_here name false see k.policy) refl) in
      inr (short_as (want_near (name ∷ names)) still k (near_is true false e f) (unpaid_is_short (is_known v name.source) k.policy.owed v.now paid)) where
        not_so : (b : Bool) → is_wanted_here name false see k.policy ≡ b → b ≡ false
        not_so false is_so = refl
        not_so true is_so = absurd (true≢false (sym (wanted_begins name false see k.policy is_so) ∙ f))

pub near_asks : (names : List NameValue) (k : Keeping) (n : NameValue) → Contains names n → MayBeWanted k n → NearIsAsked n names k
near_asks [] k n among may = absurd (Contains-none n among)
near_asks (name ∷ names) k n among may = by (near_asks names) (some_unasked name names k) refl (is_first name names k n may) refl where
  parts : (name ≡ n) ⊎ Contains names n
  parts = Contains-cases name n names among

  by : ((m : Keeping) (x : NameValue) → Contains names x → MayBeWanted m x → NearIsAsked x names m) → (some : Bool) → some_unasked name names k ≡ some → (begun : Bool) → is_first name names k n may ≡ begun → NearIsAsked n (name ∷ names) k
  by rest false e begun f = passes name names k n may e parts (λ there. rest k n there may)
  by rest true e true f = goes name names k n may e f parts (λ there. rest (next name names k) n there (same_may n (want name false) k (want_holds name false k) may))
  by rest true e false f = ends name names k n may e f

pub turn_if_costs : (was : Bool) (k : Keeping) → CostsMore k (after_doing (turn_if was) k)
turn_if_costs false k = costs_nothing k
turn_if_costs true k =
    let l = after_doing (leaps_on 65) k in
    subst (CostsMore k) (sym (then_after (leaps_on 65) turns_past k))
    (costs_both k l (after_doing turns_past l) (leaps_on_hold (λ k lines m. CostsMore k m) costs 65 k) (turns_past_hold (λ k lines m. CostsMore k m) costs l))

-- ---- leaps and turns

module _ (held : List DrawopValue) (page : PageId) (source number : ℕ) (h : Hole) (found : hole_after held page source number ≡ Some h) where
  abbrev IsMissingIn : NameValue → Type 0
  IsMissingIn n = IsMissing held n.page [] n.source n.seq

  there : Contains (holes_of held) h
  there = found_at (begins_after (start page source number)) (holes_of held) h h found

  filled : h.gap.first ≤ h.gap.last
  filled = (hole_filled held page source number h found).filled

  far_below : (first last far : ℕ) → first ≤ last → first + far % (last + 1 - first) ≤ last
  far_below first last far le = let below = mod_below far (last + 1 - first) (omega (arith, le)) in omega (arith, le, below)

  far_missing : (l : Leaps) → IsMissingIn (far_name l h)
  far_missing l = missing_in held h (far_in l.round h.gap) there (le-add_right h.gap.first (19 * l.round % (h.gap.last + 1 - h.gap.first))) (far_below h.gap.first h.gap.last (19 * l.round) filled)

  turn_missing : (t : Turns) → IsMissingIn (name_in t h)
  turn_missing t = missing_in held h (number_in t h.gap) there (number_above t h.gap filled) (number_below t h.gap filled)

leap_leads : (k : Keeping) → AnswersWhatIsHeld k.host → AsksForMissing k → AsksForMissing (after_doing leap k)
leap_leads k answers_held asks = by (hole_after held l.page l.source l.number) refl (hole_after held nowhere 0 0) refl where
  l : Leaps
  l = k.policy.leaps

  held : List DrawopValue
  held = k.host.is.held

  to : (q : Policy) (page : PageId) (source number : ℕ) (h : Hole) → hole_after held page source number ≡ Some h → AsksForMissing (after_doing (want (far_name q.leaps h) true) (with_policy (after_leaping h q) k))
  to q page source number h e = want_leads (far_name q.leaps h) true (with_policy (after_leaping h q) k) answers_held (far_missing held page source number h e q.leaps) (with_another (after_leaping h q) k asks)

  by : (next : Option Hole) → hole_after held l.page l.source l.number ≡ next → (first : Option Hole) → hole_after held nowhere 0 0 ≡ first → AsksForMissing (after_doing (leap_to next first) k)
  by (Some h) e first f = to k.policy l.page l.source l.number h e
  by None e (Some h) f = to (in_next_leaps k.policy) nowhere 0 0 h f
  by None e None f = with_another (in_next_leaps k.policy) k asks

-- where there is credit, and a number is missing, a leap asks for one
leap_starts : (k : Keeping) (n : NameValue) → AnswersWhatIsHeld k.host → is_full k.host ≡ false → has_credit k.policy.owed (present k.host) ≡ true → IsMissingAt k n → AsksForMissing (after_doing leap k)
leap_starts k n answers_held room credit missing = by (hole_after held l.page l.source l.number) refl (hole_after held nowhere 0 0) refl where
  l : Leaps
  l = k.policy.leaps

  held : List DrawopValue
  held = k.host.is.held

  to : (q : Policy) → q.owed ≡ k.policy.owed → (page : PageId) (source number : ℕ) (h : Hole) → hole_after held page source number ≡ Some h → AsksForMissing (after_doing (want (far_name q.leaps h) true) (with_policy (after_leaping h q) k))
  to q same page source number h e =
      want_starts (far_name q.leaps h) (with_policy (after_leaping h q) k) answers_held room (ap (λ (owed : ℕ). has_credit owed (present k.host)) same ∙ credit) (far_missing held page source number h e q.leaps)

  by : (next : Option Hole) → hole_after held l.page l.source l.number ≡ next → (first : Option Hole) → hole_after held nowhere 0 0 ≡ first → AsksForMissing (after_doing (leap_to next first) k)
  by (Some h) e first f = to k.policy refl l.page l.source l.number h e
  by None e (Some h) f = to (in_next_leaps k.policy) refl nowhere 0 0 h f
  by None e None f = let hole = in_hole held n missing in absurd (some_first _ (holes_of held) hole.there (holes_rise held) f)

-- leaps up to the first that asks lead to what the first of them leads to
pub leaps_lead : (most : ℕ) (k : Keeping) → AnswersWhatIsHeld k.host → AsksForMissing k → AsksForMissing (after_doing (leaps_on most) k)
leaps_lead zero k answers_held asks = subst (λ (d : Doing). AsksForMissing (having_done d k)) (sym (no_leaps (sees k.host) k.policy)) asks
leaps_lead (suc more) k answers_held asks = by (leaps_lead more) (is_begun (leap (sees k.host) k.policy)) refl where
  by : ((m : Keeping) → AnswersWhatIsHeld m.host → AsksForMissing m → AsksForMissing (after_doing (leaps_on more) m)) → (begun : Bool) → is_begun (leap (sees k.host) k.policy) ≡ begun → AsksForMissing (after_doing (leaps_on (suc more)) k)
  by rest true e = subst (λ (d : Doing). AsksForMissing (having_done d k)) (sym (leaps_end more (sees k.host) k.policy e)) (leap_leads k answers_held asks)
  by rest false e = subst (λ (d : Doing). AsksForMissing (having_done d k)) (sym (leaps_go_on more (sees k.host) k.policy e))
      (subst AsksForMissing (sym (then_after leap (leaps_on more) k)) (rest (after_doing leap k) (answers_on leap k answers_held) (leap_leads k answers_held asks)))

pub leaps_start : (more : ℕ) (k : Keeping) (n : NameValue) → AnswersWhatIsHeld k.host → is_full k.host ≡ false → has_credit k.policy.owed (present k.host) ≡ true → IsMissingAt k n → AsksForMissing (after_doing (leaps_on (suc more)) k)
leaps_start more k n answers_held room credit missing = by (is_begun (leap (sees k.host) k.policy)) refl where
  first : AsksForMissing (after_doing leap k)
  first = leap_starts k n answers_held room credit missing

  by : (begun : Bool) → is_begun (leap (sees k.host) k.policy) ≡ begun → AsksForMissing (after_doing (leaps_on (suc more)) k)
  by true e = subst (λ (d : Doing). AsksForMissing (having_done d k)) (sym (leaps_end more (sees k.host) k.policy e)) first
  by false e = subst (λ (d : Doing). AsksForMissing (having_done d k)) (sym (leaps_go_on more (sees k.host) k.policy e))
      (subst AsksForMissing (sym (then_after leap (leaps_on more) k)) (leaps_lead more (after_doing leap k) (answers_on leap k answers_held) first))

turn_leads : (k : Keeping) → AnswersWhatIsHeld k.host → AsksForMissing k → AsksForMissing (after_doing turn k)
turn_leads k answers_held asks = by (hole_after held t.page t.source t.number) refl (hole_after held nowhere 0 0) refl where
  t : Turns
  t = k.policy.turns

  held : List DrawopValue
  held = k.host.is.held

  to : (q : Policy) (page : PageId) (source number : ℕ) (h : Hole) → hole_after held page source number ≡ Some h → AsksForMissing (after_doing (want (name_in q.turns h) true) (with_policy (after_turn h q) k))
  to q page source number h e = want_leads (name_in q.turns h) true (with_policy (after_turn h q) k) answers_held (turn_missing held page source number h e q.turns) (with_another (after_turn h q) k asks)

  by : (next : Option Hole) → hole_after held t.page t.source t.number ≡ next → (first : Option Hole) → hole_after held nowhere 0 0 ≡ first → AsksForMissing (after_doing (turn_to next first) k)
  by (Some h) e first f = to k.policy t.page t.source t.number h e
  by None e (Some h) f = to (in_next_round k.policy) nowhere 0 0 h f
  by None e None f = with_another (in_next_round k.policy) k asks

-- or it spends nothing
turn_spends : (k : Keeping) → AnswersWhatIsHeld k.host → AsksForMissing (after_doing turn k) ⊎ ((after_doing turn k).policy.owed ≤ k.policy.owed)
turn_spends k answers_held = by (hole_after held t.page t.source t.number) refl (hole_after held nowhere 0 0) refl where
  t : Turns
  t = k.policy.turns

  held : List DrawopValue
  held = k.host.is.held

  to : (q : Policy) → q.owed ≡ k.policy.owed → (page : PageId) (source number : ℕ) (h : Hole) → hole_after held page source number ≡ Some h
      → let m = after_doing (want (name_in q.turns h) true) (with_policy (after_turn h q) k) in AsksForMissing m ⊎ (m.policy.owed ≤ k.policy.owed)
  to q same page source number h e =
      let m = after_doing (want (name_in q.turns h) true) (with_policy (after_turn h q) k) in
      ⊎_elim
      (λ (asks : AsksForMissing m). inl asks)
      (λ (le : m.policy.owed ≤ q.owed). inr (omega (arith, le, same)))
      (want_spends (name_in q.turns h) true (with_policy (after_turn h q) k) answers_held (turn_missing held page source number h e q.turns))

  by : (next : Option Hole) → hole_after held t.page t.source t.number ≡ next → (first : Option Hole) → hole_after held nowhere 0 0 ≡ first
      → let m = after_doing (turn_to next first) k in AsksForMissing m ⊎ (m.policy.owed ≤ k.policy.owed)
  by (Some h) e first f = to k.policy refl t.page t.source t.number h e
  by None e (Some h) f = to (in_next_round k.policy) refl nowhere 0 0 h f
  by None e None f = inr (omega arith)

-- where there is credit, and a number is missing, it asks for one
turn_starts : (k : Keeping) (n : NameValue) → AnswersWhatIsHeld k.host → is_full k.host ≡ false → has_credit k.policy.owed (present k.host) ≡ true → IsMissingAt k n → AsksForMissing (after_doing turn k)
turn_starts k n answers_held room credit missing = by (hole_after held t.page t.source t.number) refl (hole_after held nowhere 0 0) refl where
  t : Turns
  t = k.policy.turns

  held : List DrawopValue
  held = k.host.is.held

  to : (q : Policy) → q.owed ≡ k.policy.owed → (page : PageId) (source number : ℕ) (h : Hole) → hole_after held page source number ≡ Some h → AsksForMissing (after_doing (want (name_in q.turns h) true) (with_policy (after_turn h q) k))
  to q same page source number h e =
      want_starts (name_in q.turns h) (with_policy (after_turn h q) k) answers_held room (ap (λ (owed : ℕ). has_credit owed (present k.host)) same ∙ credit) (turn_missing held page source number h e q.turns)

  by : (next : Option Hole) → hole_after held t.page t.source t.number ≡ next → (first : Option Hole) → hole_after held nowhere 0 0 ≡ first → AsksForMissing (after_doing (turn_to next first) k)
  by (Some h) e first f = to k.policy refl t.page t.source t.number h e
  by None e (Some h) f = to (in_next_round k.policy) refl nowhere 0 0 h f
  by None e None f = let hole = in_hole held n missing in absurd (some_first _ (holes_of held) hole.there (holes_rise held) f)

turns_lead : (most : ℕ) (k : Keeping) → AnswersWhatIsHeld k.host → AsksForMissing k → AsksForMissing (after_doing (turns_on most) k)
turns_lead zero k answers_held asks = subst (λ (d : Doing). AsksForMissing (having_done d k)) (sym (no_turns (sees k.host) k.policy)) asks
turns_lead (suc more) k answers_held asks = by (turns_lead more) (is_begun (turn (sees k.host) k.policy)) refl where
  by : ((m : Keeping) → AnswersWhatIsHeld m.host → AsksForMissing m → AsksForMissing (after_doing (turns_on more) m)) → (begun : Bool) → is_begun (turn (sees k.host) k.policy) ≡ begun → AsksForMissing (after_doing (turns_on (suc more)) k)
  by rest true e = subst (λ (d : Doing). AsksForMissing (having_done d k)) (sym (turns_end more (sees k.host) k.policy e)) (turn_leads k answers_held asks)
  by rest false e = subst (λ (d : Doing). AsksForMissing (having_done d k)) (sym (turns_go_on more (sees k.host) k.policy e))
      (subst AsksForMissing (sym (then_after turn (turns_on more) k)) (rest (after_doing turn k) (answers_on turn k answers_held) (turn_leads k answers_held asks)))

pub past_leads : (k : Keeping) → AnswersWhatIsHeld k.host → AsksForMissing k → AsksForMissing (after_doing turns_past k)
past_leads k answers_held asks = by (passes_on (young_count (view_of k.host).asked) k.policy.owed (present k.host)) where
  by : (b : Bool) → AsksForMissing (having_done (cond b (turns_on 65 (sees k.host) k.policy) (still (sees k.host) k.policy)) k)
  by true = turns_lead 65 k answers_held asks
  by false = asks

-- ---- what is due

-- what is said leaves the host
answers_stay : (k : Keeping) → (after_doing answers k).host ≡ k.host
answers_stay k = by (is_due (present k.host) k.policy.questions.answer) where
  by : (b : Bool)
      → (having_done (cond b (doing (after_answer (present k.host) (length (take 64 (pages_of k.host.is.held))) k.policy) (map (λ (page : PageId). Says (state_of (view_of k.host) page)) (take 64 (pages_of k.host.is.held)))) (still (sees k.host) k.policy)) k).host ≡ k.host
  by true = says_after (view_of k.host) (take 64 (pages_of k.host.is.held)) k.host
  by false = refl

pages_stay : (k : Keeping) → (after_doing asks_pages k).host ≡ k.host
pages_stay k = by (is_due (present k.host) k.policy.questions.ask) where
  by : (b : Bool) → (having_done (cond b (doing (after_question (present k.host) k.policy) (Says (AskPages k.host.is.number) ∷ [])) (still (sees k.host) k.policy)) k).host ≡ k.host
  by true = refl
  by false = refl

reports_stay : (k : Keeping) → (after_doing reports_due k).host ≡ k.host
reports_stay k = by (nat_le k.policy.reports.due (present k.host)) where
  rest : (marks : List MarkValue) → (after_doing (reports_rest marks) k).host ≡ k.host
  rest [] = refl
  rest (m ∷ marks) = refl

  report : (name : Option NameValue) → (after_doing (reports_either name) k).host ≡ k.host
  report None = rest (rest_after k.policy.told.until k.policy.told.last (report_of k.host.is.held k.policy.told.page))
  report (Some name) = refl

  by : (b : Bool) → (having_done (cond b (reports (sees k.host) k.policy) (still (sees k.host) k.policy)) k).host ≡ k.host
  by true = report (newest_now k.host.is.held k.policy.told)
  by false = refl

same_host : (k m : Keeping) → m.host ≡ k.host → AsksForMissing k → AsksForMissing m
same_host k m same asks = record {
  name = asks.name;
  missing = subst (λ (h : Opened). IsMissing h.is.held asks.name.page [] asks.name.source asks.name.seq) (sym same) asks.missing;
  asked = ap (asks_for asks.name) same ∙ asks.asked;
}

pub timed_leads : (k : Keeping) → AnswersWhatIsHeld k.host → AsksForMissing k → AsksForMissing (after_doing timed k)
timed_leads k answers_held asks = subst AsksForMissing (sym (to_turn k)) (by (nat_le r.policy.pace.due (present r.host))) where
  r : Keeping
  r = reported k

  same : r.host ≡ k.host
  same = reports_stay (after_doing asks_pages (after_doing answers k)) ∙ pages_stay (after_doing answers k) ∙ answers_stay k

  beaten : Policy
  beaten = after_beat (present r.host) r.policy

  by : (b : Bool) → AsksForMissing (having_done (cond b (turn_by_clock (sees r.host) r.policy) (still (sees r.host) r.policy)) r)
  by true = turn_leads (with_policy beaten r) (subst AnswersWhatIsHeld (sym same) answers_held) (with_another beaten r (same_host k r same asks))
  by false = same_host k r same asks

module _ (k : Keeping) (answers_held : AnswersWhatIsHeld k.host) where
  abbrev after_report : Keeping
  after_report = reported k

  abbrev in_turn : Keeping
  in_turn = with_policy (after_beat (present after_report.host) after_report.policy) after_report

  stays : after_report.host ≡ k.host
  stays = reports_stay (after_doing asks_pages (after_doing answers k)) ∙ pages_stay (after_doing answers k) ∙ answers_stay k

  held_there : AnswersWhatIsHeld after_report.host
  held_there = subst AnswersWhatIsHeld (sym stays) answers_held

  -- or it spends nothing
  pub timed_spends : AsksForMissing (after_doing timed k) ⊎ ((after_doing timed k).policy.owed ≤ k.policy.owed)
  timed_spends = subst (λ (x : Keeping). AsksForMissing x ⊎ (x.policy.owed ≤ k.policy.owed)) (sym (to_turn k)) (by (nat_le after_report.policy.pace.due (present after_report.host))) where
    by : (b : Bool) → let m = having_done (cond b (turn_by_clock (sees after_report.host) after_report.policy) (still (sees after_report.host) after_report.policy)) after_report in AsksForMissing m ⊎ (m.policy.owed ≤ k.policy.owed)
    by true = ⊎_elim
        (λ (asks : AsksForMissing (after_doing turn in_turn)). inl asks)
        (λ (le : (after_doing turn in_turn).policy.owed ≤ after_report.policy.owed). let same = owed_r k in inr (omega (arith, le, same)))
        (turn_spends in_turn held_there)
    by false = let same = owed_r k in inr (omega (arith, same))

  -- a turn that is due asks for a missing number, where there is credit
  pub timed_turns : (n : NameValue) → is_full k.host ≡ false → has_credit k.policy.owed (present k.host) ≡ true → IsMissingAt k n → k.policy.pace.due ≤ present k.host → AsksForMissing (after_doing timed k)
  timed_turns n room credit missing late =
      subst AsksForMissing (sym (turned_there k late))
      (turn_starts in_turn n held_there (ap is_full stays ∙ room)
      (ap (λ (owed : ℕ). has_credit owed (present after_report.host)) (owed_r k) ∙ ap (λ (h : Opened). has_credit k.policy.owed (present h)) stays ∙ credit)
      (subst (λ (h : Opened). IsMissing h.is.held n.page [] n.source n.seq) (sym stays) missing))
