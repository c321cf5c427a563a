-- Notices of many names: a step of them, and how they are taken back.
use Rattle.std.proofs.Common.{◌≡◌, ℕ, ◌+◌, ◌<◌, Bool, true, false, cond, Option, Some, None, Result, Ok, Err, List, [], ◌∷◌, ◌++◌, length, get_or, take, refl, ap, ◌∙◌, sym, arith, true≢false}
use Rattle.std.specs.Prelude.{◌&&◌, is_none, is_some, unwrap_or, OnOk, OnErr}
use Rattle.std.specs.List.Sorted.{IsStrictlySortedBy}
use Rattle.std.specs.BTreeMap.{BTreeMap, get, is_at}
use Rattle.std.proofs.lemmas.List.Sums.{fold_more}
use Rattle.wb_names.specs.Values.{NameValue}
use Rattle.wb_names.specs.Orders.{same_name, name_cmp}
use Rattle.wb_names.proofs.Orders.{same_name-is}
use Rattle.wb_recovery.specs.Timing.{no_timers, noticed, new_ask}
use Rattle.wb_recovery.specs.Values.{RecoveryValue, record_at, record_in, timers_at, timers_in, names_in, Replaces}
use Rattle.wb_recovery.specs.Events.{Event, Notice, moment_of, constants_after, timers_of}
use Rattle.wb_recovery.specs.Noticing.{notices, unset, unset_at, taken_back}
use Rattle.wb_recovery.specs.declared.tuning.Tuning.{Tuning}
use Rattle.wb_recovery.specs.declared.timers.Timers.{Timers}
use Rattle.wb_recovery.specs.declared.timers.AskTimer.{AskTimer}
use Rattle.wb_recovery.specs.declared.missed.Missed.{Missed}
use Rattle.wb_recovery.proofs.NameOrder.{name_ties}
use Rattle.wb_recovery.proofs.SameRecords.{same_records}

-- one more notice
pub notices_more : (now : ℕ) (events : List Event) (missed : List Missed) (i : ℕ) (m : Missed) → i < length missed → m ≡ get_or missed i m → notices now events (take (i + 1) missed) ≡ Notice m.name now m.delay m.word ∷ notices now events (take i missed)
notices_more now events missed i m lt is =
    fold_more (λ (before : List Event) (k : Missed). Notice k.name now k.delay k.word ∷ before) events missed i m lt
    ∙ ap (λ (k : Missed). Notice k.name now k.delay k.word ∷ notices now events (take i missed)) (sym is)

-- ---- request timers that are taken away again
pub taken_last : (n : NameValue) (set : List (NameValue × Bool)) (s : NameValue × Bool) (kept : Option Timers) → taken_back n (set ++ s ∷ []) kept ≡ taken_back n set (unset_at n s kept)
taken_last n [] s kept = refl
taken_last n (r ∷ set) s kept = ap (unset_at n r) (taken_last n set s kept)

none_is : (o : Option AskTimer) → is_some o ≡ false → o ≡ None
none_is None e = refl
none_is (Some a) e = absurd (true≢false e)

-- where no request timer stands, none is taken away
pub unset_none : (n name : NameValue) (had : Bool) (value : RecoveryValue) → is_some (timers_in value name).ask ≡ false → unset_at n (name, had) (record_in value n) ≡ record_in value n
unset_none n name had value none = from (same_name name n) refl where
  from : (b : Bool) → same_name name n ≡ b → cond (b && is_some (timers_in value n).ask) (unset had (timers_in value n)) (record_in value n) ≡ record_in value n
  from true e = ap (λ (b : Bool). cond b (unset had (timers_in value n)) (record_in value n)) (ap (λ (m : NameValue). is_some (timers_in value m).ask) (sym (same_name-is name n e)) ∙ none)
  from false e = refl

-- a request timer that was set is taken away
pub unset_set : (n name : NameValue) (value new : RecoveryValue) (t : Tuning) (now delay word : ℕ) → is_some (timers_in value name).ask ≡ false
    → record_in new n ≡ cond (same_name name n && is_none (timers_in value name).ask) (Some (noticed t now delay word (timers_in value name))) (record_in value n)
    → unset_at n (name, is_some (record_in value name)) (record_in new n) ≡ record_in value n
unset_set n name value new t now delay word none r =
    ap (unset_at n (name, is_some (record_in value name))) (r ∙ ap (λ (o : Option AskTimer). cond (same_name name n && is_none o) (Some (cond (is_none o) set (timers_in value name))) (record_in value n)) (none_is _ none))
    ∙ from (same_name name n) refl where
      set : Timers
      set = record (timers_in value name) { ask = Some (new_ask t now delay word) }

      back : (o : Option Timers) → is_some (unwrap_or o no_timers).ask ≡ false → unset (is_some o) (record (unwrap_or o no_timers) { ask = Some (new_ask t now delay word) }) ≡ o
      back None e = refl
      back (Some k) e = ap (λ (o : Option AskTimer). Some (record k { ask = o })) (sym (none_is k.ask e))

      from : (b : Bool) → same_name name n ≡ b → (let kept = cond (b && true) (Some set) (record_in value n) in cond (b && is_some (unwrap_or kept no_timers).ask) (unset (is_some (record_in value name)) (unwrap_or kept no_timers)) kept) ≡ record_in value n
      from true e = back (record_in value name) none ∙ ap (record_in value) (same_name-is name n e)
      from false e = refl

-- the same, whether or not an allocation failed
pub unset_started : {X E : Type 0} (r : Result X E) (n name : NameValue) (value new : RecoveryValue) (t : Tuning) (now delay word : ℕ) → is_some (timers_in value name).ask ≡ false
    → OnOk r ((m : NameValue) → record_in new m ≡ cond (same_name name m && is_none (timers_in value name).ask) (Some (noticed t now delay word (timers_in value name))) (record_in value m))
    → OnErr r (new ≡ value) → unset_at n (name, is_some (record_in value name)) (record_in new n) ≡ record_in value n
unset_started (Ok x) n name value new t now delay word none ok err = unset_set n name value new t now delay word none (ok n)
unset_started (Err x) n name value new t now delay word none ok err = ap (λ (v : RecoveryValue). unset_at n (name, is_some (record_in value name)) (record_in v n)) err ∙ unset_none n name (is_some (record_in value name)) value none

-- a request timer that stands is taken away
pub unset_here : (n name : NameValue) (had : Bool) (value new : RecoveryValue) (timers : Timers) → timers ≡ timers_in value name → is_some timers.ask ≡ true
    → record_in new n ≡ cond (same_name name n) (unset had timers) (record_in value n) → record_in new n ≡ unset_at n (name, had) (record_in value n)
unset_here n name had value new timers is some r = r ∙ from (same_name name n) refl where
  from : (b : Bool) → same_name name n ≡ b → cond b (unset had timers) (record_in value n) ≡ cond (b && is_some (timers_in value n).ask) (unset had (timers_in value n)) (record_in value n)
  from true e =
      let here : timers ≡ timers_in value n = is ∙ ap (timers_in value) (same_name-is name n e) in
      ap (unset had) here ∙ ap (λ (b : Bool). cond b (unset had (timers_in value n)) (record_in value n)) (sym some ∙ ap (λ (s : Timers). is_some s.ask) here)
  from false e = refl

-- all is as it was where each name finds the same
pub all_back : (first now : RecoveryValue) → IsStrictlySortedBy name_cmp (names_in first) → IsStrictlySortedBy name_cmp (names_in now) → now.tuning ≡ first.tuning → now.moment ≡ first.moment → ((n : NameValue) → record_in now n ≡ record_in first n) → now ≡ first
all_back first now s t tuning moment each =
    ap (λ (c : Tuning). record now { tuning = c }) tuning
    ∙ ap (λ (k : ℕ). record { tuning = first.tuning; moment = k; records = now.records }) moment
    ∙ ap (λ (es : List (NameValue × Timers)). record first { records = es }) (same_records now.records first.records t s each)

-- one more notice, of what a recovery stands for
pub stands_more : (t : Tuning) (time : ℕ) (m : Missed) (events : List Event) (old new : RecoveryValue) → old.tuning ≡ constants_after t events → ((n : NameValue) → timers_in old n ≡ timers_of t events n) → Replaces old new m.name (noticed old.tuning time m.delay m.word (timers_in old m.name)) → (n : NameValue) → timers_in new n ≡ timers_of t (Notice m.name time m.delay m.word ∷ events) n
stands_more t time m events old new is so_far r n = r.timers n ∙ from (same_name m.name n) refl where
  from : (b : Bool) → same_name m.name n ≡ b → cond b (noticed old.tuning time m.delay m.word (timers_in old m.name)) (timers_in old n) ≡ cond b (noticed (constants_after t events) time m.delay m.word (timers_of t events n)) (timers_of t events n)
  from true h =
      ap (λ (c : Tuning). noticed c time m.delay m.word (timers_in old m.name)) is
      ∙ ap (λ (k : NameValue). noticed (constants_after t events) time m.delay m.word (timers_in old k)) (same_name-is m.name n h)
      ∙ ap (noticed (constants_after t events) time m.delay m.word) (so_far n)
  from false h = so_far n

-- a map whose record of a name was written, or taken out
pub record_written : (old new : BTreeMap NameValue Timers) (name : NameValue) (after : Option Timers) → ((q : NameValue) → get name_cmp new q ≡ cond (is_at (name_cmp name) q) after (get name_cmp old q)) → (n : NameValue) → record_at new.entries n ≡ cond (same_name name n) after (record_at old.entries n)
record_written old new name after f n = f n ∙ ap (λ (b : Bool). cond b after (get name_cmp old n)) (sym (name_ties name n))

pub timers_gone : (old new : BTreeMap NameValue Timers) (name : NameValue) → ((n : NameValue) → record_at new.entries n ≡ cond (same_name name n) None (record_at old.entries n)) → (n : NameValue) → timers_at new.entries n ≡ cond (same_name name n) no_timers (timers_at old.entries n)
timers_gone old new name r n = ap (λ (o : Option Timers). unwrap_or o no_timers) (r n) ∙ out (same_name name n) where
  out : (b : Bool) → unwrap_or (cond b None (record_at old.entries n)) no_timers ≡ cond b no_timers (timers_at old.entries n)
  out true = refl
  out false = refl

-- the moment after notices
pub notices_moment : (now : ℕ) (events : List Event) (missed : List Missed) → moment_of events ≡ now → moment_of (notices now events missed) ≡ now
notices_moment now events [] h = h
notices_moment now events (m ∷ missed) h = notices_moment now (Notice m.name now m.delay m.word ∷ events) missed refl

pub notices_first : (now : ℕ) (events : List Event) (missed : List Missed) → (length missed ≡ 0 → ⊥) → moment_of (notices now events missed) ≡ now
notices_first now events [] h = absurd (h refl)
notices_first now events (m ∷ missed) h = notices_moment now (Notice m.name now m.delay m.word ∷ events) missed refl

pub notices_none : (now : ℕ) (events : List Event) (missed : List Missed) → length missed ≡ 0 → notices now events missed ≡ events
notices_none now events [] h = refl
notices_none now events (m ∷ missed) h = absurd (omega arith)

-- the constants after notices
pub notices_constants : (t : Tuning) (now : ℕ) (events : List Event) (missed : List Missed) → constants_after t (notices now events missed) ≡ constants_after t events
notices_constants t now events [] = refl
notices_constants t now events (m ∷ missed) = notices_constants t now (Notice m.name now m.delay m.word ∷ events) missed
