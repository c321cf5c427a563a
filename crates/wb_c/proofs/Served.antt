-- What a host does by bytes, by what its member did.
use Rattle.std.proofs.Common.{◌≡◌, ℕ, ◌<◌, ◌≤◌, List, Bool, true, false, Option, Some, None, Result, Ok, Err, IfOk, refl, sym, ap, subst, ◌∙◌, arith}
use Rattle.std.proofs.lemmas.Bool.Decides.{nat_tests}
use Rattle.std.proofs.lemmas.Bool.{le-ltb, lt-ltb}
use Rattle.std.specs.Prelude.{is_some, nat_lt}
use Rattle.wb_names.specs.declared.moment.TheConstants.{MOMENT_LIMIT}
use Rattle.wb_keeping.specs.Performing.{KeptValue}
use Rattle.wb_codec.specs.declared.datagram.Datagram.{Datagram}
use Rattle.wb_codec.specs.declared.fault.ReadFault.{ReadFault}
use Rattle.wb_judge.specs.Judge.{Judge}
use Rattle.wb_judge.specs.declared.origin.Origin.{Origin}
use Rattle.wb_judging.specs.declared.call.Call.{Call}
use Rattle.wb_judging.specs.declared.call.Call.TheVariants.{CameFrom, Passed}
use Rattle.wb_judging.specs.declared.news.News.TheVariants.{Garbled}
use Rattle.wb_judging.specs.Performing.{JudgedValue}
use Rattle.wb_dialog.specs.Doing.{DialogValue, judged_in, kept_in, with_kept, with_member}
use Rattle.wb_c.specs.Judging.{Judges}
use Rattle.wb_c.specs.Serving.{AtAny, AtEither, AtJudged, AtJudgedBy, AtKept, AtMember, AtOwn, InTime, OfDay, Refuses, Unjudged, arrival, read_by}
use Rattle.wb_c.specs.declared.event.Event.{Event}
use Rattle.wb_c.specs.declared.room.Room.{Room}

-- ---- a member that was taken out and put back

module _ (does : KeptValue → KeptValue → List Event → List Event → ℕ → Type 0) (old new : Room) (status : ℕ) where
  pub at_kept : (found : Option KeptValue) (kept after : KeptValue) → Some kept ≡ found → new.dialog ≡ with_kept after old.dialog → new.block ≡ old.block
      → does kept after old.events.items new.events.items status → AtKept does found old new status
  at_kept found kept after is dialog block did = subst (λ (f : Option KeptValue). AtKept does f old new status) is (after, dialog, block, did)

  pub at_none : (found : Option KeptValue) → None ≡ found → Refuses 7 old new status → AtKept does found old new status
  at_none found is refuses = subst (λ (f : Option KeptValue). AtKept does f old new status) is refuses

-- another is put into the place of a member that was taken out
pub put_back : (old taken new : DialogValue) (kept after : KeptValue) → with_kept kept taken ≡ old → new ≡ with_kept after taken → new ≡ with_kept after old
put_back old taken new kept after was is = is ∙ ap (with_kept after) was

-- its member did it, or an allocation failed, and in any case it was put back
pub member_did : {E : Type 0} (does : KeptValue → KeptValue → List Event → List Event → ℕ → Type 0) (old new : Room) (r : Result ℕ E) (taken : DialogValue) (kept after : KeptValue)
    → Some kept ≡ kept_in old.dialog.host → with_kept kept taken ≡ old.dialog → new.dialog ≡ with_kept after taken → new.block ≡ old.block
    → IfOk r (does kept after old.events.items new.events.items) → IfOk r (AtMember does old new)
member_did does old new (Ok status) taken kept after is was dialog block did = at_kept does old new status (kept_in old.dialog.host) kept after is (put_back old.dialog taken new.dialog kept after was dialog) block did
member_did does old new (Err e) taken kept after is was dialog block did = tt

-- ---- a judged member

module _ (line : Call) (old new : Room) (status : ℕ) where
  at_judged : (found : Option JudgedValue) (m after : JudgedValue) → Some m ≡ found → new.dialog ≡ with_member after old.dialog → new.block ≡ old.block
      → Judges line m after old.events.items new.events.items status → AtJudgedBy line found old new status
  at_judged found m after is dialog block did = subst (λ (f : Option JudgedValue). AtJudgedBy line f old new status) is (after, dialog, block, did)

  pub at_not_judged : (found : Option JudgedValue) → None ≡ found → Refuses 16 old new status → AtJudgedBy line found old new status
  at_not_judged found is refuses = subst (λ (f : Option JudgedValue). AtJudgedBy line f old new status) is refuses

put_member_back : (old taken new : DialogValue) (m after : JudgedValue) → with_member m taken ≡ old → new ≡ with_member after taken → new ≡ with_member after old
put_member_back old taken new m after was is = is ∙ ap (with_member after) was

-- It was called, or an allocation failed, and in any case it was put back.
pub judged_did : {E : Type 0} (line : Call) (old new : Room) (r : Result ℕ E) (taken : DialogValue) (m after : JudgedValue)
    → Some m ≡ judged_in old.dialog.host → with_member m taken ≡ old.dialog → new.dialog ≡ with_member after taken → new.block ≡ old.block
    → IfOk r (Judges line m after old.events.items new.events.items) → IfOk r (AtJudged line old new)
judged_did line old new (Ok status) taken m after is was dialog block did =
    at_judged line old new status (judged_in old.dialog.host) m after is (put_member_back old.dialog taken new.dialog m after was dialog) block did
judged_did line old new (Err e) taken m after is was dialog block did = tt

-- a host that is judged, and one that is not
module _ {E : Type 0} (line : Call) (does : KeptValue → KeptValue → List Event → List Event → ℕ → Type 0) (old new : Room) (r : Result ℕ E) (judged : Bool) where
  pub either_judged : judged ≡ is_some (judged_in old.dialog.host) → judged ≡ true → IfOk r (AtJudged line old new) → IfOk r (AtEither (is_some (judged_in old.dialog.host)) line does old new)
  either_judged is so did = subst (λ (b : Bool). IfOk r (AtEither b line does old new)) (sym so ∙ is) did

  pub either_kept : judged ≡ is_some (judged_in old.dialog.host) → judged ≡ false → IfOk r (AtMember does old new) → IfOk r (AtEither (is_some (judged_in old.dialog.host)) line does old new)
  either_kept is so did = subst (λ (b : Bool). IfOk r (AtEither b line does old new)) (sym so ∙ is) did

-- a call without an origin
module _ (does : Room → Room → ℕ → Type 0) (old : Room) where
  pub refused_at_judged : (judged : Bool) → judged ≡ is_some (judged_in old.dialog.host) → judged ≡ true → Unjudged (is_some (judged_in old.dialog.host)) does old old 15
  refused_at_judged judged is so = subst (λ (b : Bool). Unjudged b does old old 15) (sym so ∙ is) (refl, refl)

  pub unjudged_did : {E : Type 0} (new : Room) (r : Result ℕ E) (judged : Bool) → judged ≡ is_some (judged_in old.dialog.host) → judged ≡ false → IfOk r (does old new) → IfOk r (Unjudged (is_some (judged_in old.dialog.host)) does old new)
  unjudged_did new r judged is so did = subst (λ (b : Bool). IfOk r (Unjudged b does old new)) (sym so ∙ is) did

-- ---- what came from an origin

pub came_as_read : (now : ℕ) (o : Origin) (read : Result Datagram ReadFault) (v : Datagram) → Ok v ≡ read_by read → CameFrom now o v ≡ arrival now o read
came_as_read now o (Ok w) v is = let same : v ≡ w = cc in ap (λ (u : Datagram). CameFrom now o u) same
came_as_read now o (Err fault) v is = absurd cc

pub garbled_as_read : (now : ℕ) (o : Origin) (read : Result Datagram ReadFault) (status : ℕ) → Err status ≡ read_by read → Passed now Garbled ≡ arrival now o read
garbled_as_read now o (Ok w) status is = absurd cc
garbled_as_read now o (Err fault) status is = refl

-- ---- a moment

module _ (does : Room → Room → ℕ → Type 0) (old new : Room) (status now : ℕ) where
  early : now < MOMENT_LIMIT → nat_lt now MOMENT_LIMIT ≡ true
  early low = grind (arith, nat_tests)

  late : MOMENT_LIMIT ≤ now → nat_lt now MOMENT_LIMIT ≡ false
  late high = grind (arith, nat_tests)

  pub in_time : now < MOMENT_LIMIT → does old new status → InTime (nat_lt now MOMENT_LIMIT) does old new status
  in_time low did = subst (λ (b : Bool). InTime b does old new status) (sym (early low)) did

  pub not_in_time : MOMENT_LIMIT ≤ now → Refuses 8 old new status → InTime (nat_lt now MOMENT_LIMIT) does old new status
  not_in_time high refuses = subst (λ (b : Bool). InTime b does old new status) (sym (late high)) refuses

-- a call that is made in time
pub all_in_time : {E : Type 0} (does : Room → Room → ℕ → Type 0) (old new : Room) (now : ℕ) (r : Result ℕ E) → now < MOMENT_LIMIT → IfOk r (does old new) → IfOk r (InTime (nat_lt now MOMENT_LIMIT) does old new)
all_in_time does old new now (Ok status) low did = in_time does old new status now low did
all_in_time does old new now (Err e) low did = tt

-- ---- a time of day

module _ (does : Room → Room → ℕ → Type 0) (old new : Room) where
  pub not_of_day : (wall limit status : ℕ) → limit ≤ wall → Refuses 19 old new status → OfDay (nat_lt wall limit) does old new status
  not_of_day wall limit status high refuses = subst (λ (b : Bool). OfDay b does old new status) (sym (le-ltb wall limit high)) refuses

  pub all_of_day : {E : Type 0} (r : Result ℕ E) (wall limit : ℕ) → wall < limit → IfOk r (does old new) → IfOk r (OfDay (nat_lt wall limit) does old new)
  all_of_day r wall limit low did = subst (λ (b : Bool). IfOk r (OfDay b does old new)) (sym (lt-ltb wall limit low)) did

-- ---- a question at a host of any kind

module _ (does : KeptValue → KeptValue → List Event → List Event → ℕ → Type 0) (old new : Room) where
  at_own : (status : ℕ) (found : Option JudgedValue) (m : JudgedValue) (after : KeptValue) → Some m ≡ found → new.dialog ≡ with_member (record { kept = after; judge = m.judge }) old.dialog → new.block ≡ old.block
      → does m.kept after old.events.items new.events.items status → AtOwn does found old new status
  at_own status found m after is dialog block did = subst (λ (f : Option JudgedValue). AtOwn does f old new status) is (after, dialog, block, did)

  pub at_not_own : (status : ℕ) (found : Option JudgedValue) → None ≡ found → Refuses 7 old new status → AtOwn does found old new status
  at_not_own status found is refuses = subst (λ (f : Option JudgedValue). AtOwn does f old new status) is refuses

  own_back : {E : Type 0} (r : Result ℕ E) (m : JudgedValue) (after : KeptValue) → Some m ≡ judged_in old.dialog.host → new.dialog ≡ with_member (record { kept = after; judge = m.judge }) old.dialog → new.block ≡ old.block
      → IfOk r (does m.kept after old.events.items new.events.items) → IfOk r (AtOwn does (judged_in old.dialog.host) old new)
  own_back (Ok status) m after is dialog block did = at_own status (judged_in old.dialog.host) m after is dialog block did
  own_back (Err e) m after is dialog block did = tt

  -- The self-managing member of a judged one did it, or an allocation failed, and in any case it was put back.
  pub own_did : {E : Type 0} (r : Result ℕ E) (taken : DialogValue) (m : JudgedValue) (kept after : KeptValue) (judge : Judge) → kept ≡ m.kept → judge ≡ m.judge → Some m ≡ judged_in old.dialog.host → with_member m taken ≡ old.dialog
      → new.dialog ≡ with_member (record { kept = after; judge = judge }) taken → new.block ≡ old.block → IfOk r (does kept after old.events.items new.events.items) → IfOk r (AtOwn does (judged_in old.dialog.host) old new)
  own_did r taken m kept after judge its own is was dialog block did =
      own_back r m after is (put_member_back old.dialog taken new.dialog m (record { kept = after; judge = m.judge }) was (dialog ∙ ap (λ (j : Judge). with_member (record { kept = after; judge = j }) taken) own)) block
      (subst (λ (k : KeptValue). IfOk r (does k after old.events.items new.events.items)) its did)

  pub any_judged : {E : Type 0} (r : Result ℕ E) (judged : Bool) → judged ≡ is_some (judged_in old.dialog.host) → judged ≡ true → IfOk r (AtOwn does (judged_in old.dialog.host) old new) → IfOk r (AtAny (is_some (judged_in old.dialog.host)) does old new)
  any_judged r judged is so did = subst (λ (b : Bool). IfOk r (AtAny b does old new)) (sym so ∙ is) did

  pub any_kept : {E : Type 0} (r : Result ℕ E) (judged : Bool) → judged ≡ is_some (judged_in old.dialog.host) → judged ≡ false → IfOk r (AtMember does old new) → IfOk r (AtAny (is_some (judged_in old.dialog.host)) does old new)
  any_kept r judged is so did = subst (λ (b : Bool). IfOk r (AtAny b does old new)) (sym so ∙ is) did
