-- The names that a host asks for, and their timers.
use Rattle.std.proofs.Common.{◌≡◌, Bool, true, false, List, [], ◌∷◌, ◌∙◌, Option, Some, None, ap, cond, is_some, refl, sym, subst, true≢false}
use Rattle.std.specs.Prelude.{length, map, ◌||◌}
use Rattle.std.specs.List.{cons_option, find, list_any}
use Rattle.std.specs.Option.{option_map}
use Rattle.wb_names.specs.Orders.{same_name}
use Rattle.wb_names.specs.Values.{NameValue}
use Rattle.wb_names.proofs.Orders.{same_name-is, same_name-itself}
use Rattle.wb_recovery.specs.Events.{asking, names_of, timers_of}
use Rattle.wb_recovery.proofs.TimerLaws.{unnamed}
use Rattle.std.specs.Prelude.{Contains}
use Rattle.std.proofs.lemmas.List.Folds.{list_any_at}
use Rattle.std.proofs.lemmas.List.{length-map}
use Rattle.wb_member.specs.Judged.{asked_names, level as member_level}
use Rattle.wb_member.specs.Opened.{Opened, events}
use Rattle.wb_member.specs.declared.calls.Call.TheVariants.{Stop}
use Rattle.wb_keeping.specs.Views.{level}
use Rattle.wb_recovery.specs.declared.timers.AskTimer.{AskTimer}
use Rattle.wb_recovery.specs.declared.timers.Timers.{Timers}
use Rattle.wb_keeper.specs.GivingUp.{level as level_in}
use Rattle.wb_keeping.specs.Kept.{Calls, Line, stops_for}
use Rattle.wb_keeping.specs.Performing.{asked_name, asked_with, view_of}
use Rattle.wb_policy.specs.declared.wanting.AskedName.{AskedName}

abbrev pub is_of : NameValue → AskedName → Bool
is_of x a = same_name a.name x

abbrev pub amid : NameValue → List NameValue → Bool
amid x names = list_any (λ n. same_name n x) names

module _ (timers : NameValue → Timers) where
  module _ (x : NameValue) where
    -- a name that is another's is passed over
    passed : (n : NameValue) (timer : Option AskTimer) (rest : List AskedName) → same_name n x ≡ false → find (is_of x) (cons_option (asked_name n timer) rest) ≡ find (is_of x) rest
    passed n None rest other = refl
    passed n (Some a) rest other = let first : AskedName = record { name = n; level = a.level } in ap (λ (b : Bool). cond b (Some first) (find (is_of x) rest)) other

    -- the name itself is found, where its timer stands
    here : (timer : Option AskTimer) (rest : List AskedName) (b : Bool) → same_name x x ≡ true → find (is_of x) rest ≡ cond b (asked_name x timer) None → find (is_of x) (cons_option (asked_name x timer) rest) ≡ asked_name x timer
    here None rest true same r = r
    here None rest false same r = r
    here (Some a) rest b same r = let first : AskedName = record { name = x; level = a.level } in ap (λ (b : Bool). cond b (Some first) (find (is_of x) rest)) same

    found_step : (n : NameValue) (names : List NameValue) (b : Bool) → same_name n x ≡ b → find (is_of x) (asked_with timers names) ≡ cond (amid x names) (asked_name x (timers x).ask) None → find (is_of x) (asked_with timers (n ∷ names)) ≡ cond (same_name n x || amid x names) (asked_name x (timers x).ask) None
    found_step n names false other rest =
        passed n (timers n).ask (asked_with timers names) other ∙ rest ∙ ap (λ (b : Bool). cond (b || amid x names) (asked_name x (timers x).ask) None) (sym other)
    found_step n names true same rest =
        let e : n ≡ x = same_name-is n x same in
        let at : find (is_of x) (cons_option (asked_name x (timers x).ask) (asked_with timers names)) ≡ asked_name x (timers x).ask = here (timers x).ask (asked_with timers names) (amid x names) (subst (λ (m : NameValue). same_name m x ≡ true) e same) rest in
        ap (λ (m : NameValue). find (is_of x) (cons_option (asked_name m (timers m).ask) (asked_with timers names))) e ∙ at
        ∙ ap (λ (b : Bool). cond (b || amid x names) (asked_name x (timers x).ask) None) (sym same)

    -- what is found of a name
    pub found : (names : List NameValue) → find (is_of x) (asked_with timers names) ≡ cond (amid x names) (asked_name x (timers x).ask) None
    found [] = refl
    found (n ∷ names) = found_step n names (same_name n x) refl (found names)

    level_of_asked : (timer : Option AskTimer) → option_map (λ (a : AskedName). a.level) (asked_name x timer) ≡ level_in timer
    level_of_asked None = refl
    level_of_asked (Some a) = refl

    -- The level of a name that is among these, or has no timer.
    pub levels : (names : List NameValue) → (amid x names ≡ false → (timers x).ask ≡ None) → option_map (λ (a : AskedName). a.level) (find (is_of x) (asked_with timers names)) ≡ level_in (timers x).ask
    levels names none = ap (option_map (λ (a : AskedName). a.level)) (found names) ∙ by (amid x names) refl where
      by : (b : Bool) → amid x names ≡ b → option_map (λ (a : AskedName). a.level) (cond b (asked_name x (timers x).ask) None) ≡ level_in (timers x).ask
      by true e = level_of_asked (timers x).ask
      by false e = sym (ap level_in (none e))

  -- ---- all of them

  named_one : (n : NameValue) (timer : Option AskTimer) (asked : List AskedName) (names : List NameValue) → map (λ (a : AskedName). a.name) asked ≡ names → map (λ (a : AskedName). a.name) (cons_option (asked_name n timer) asked) ≡ cond (is_some timer) (n ∷ names) names
  named_one n None asked names e = e
  named_one n (Some a) asked names e = ap (λ (ns : List NameValue). n ∷ ns) e

  -- they are the names with a request timer
  pub named : (names : List NameValue) → map (λ (a : AskedName). a.name) (asked_with timers names) ≡ asking names timers
  named [] = refl
  named (n ∷ names) = named_one n (timers n).ask (asked_with timers names) (asking names timers) (named names)

  again_one : (n : NameValue) (timer : Option AskTimer) → timer ≡ (timers n).ask → (names : List NameValue) (asked : List AskedName) → asked_with timers names ≡ asked → asked_with timers (cond (is_some timer) (n ∷ names) names) ≡ cons_option (asked_name n timer) asked
  again_one n None e names asked same = same
  again_one n (Some a) e names asked same = ap (λ (t : Option AskTimer). cons_option (asked_name n t) (asked_with timers names)) (sym e) ∙ ap (λ (rest : List AskedName). record { name = n; level = a.level } ∷ rest) same

  -- and no other name tells one
  pub again : (names : List NameValue) → asked_with timers (asking names timers) ≡ asked_with timers names
  again [] = refl
  again (n ∷ names) = again_one n (timers n).ask refl (asking names timers) (asked_with timers names) (again names)

pub counted : (timers : NameValue → Timers) (names : List NameValue) → length (asked_with timers names) ≡ length (asking names timers)
counted timers names = sym (length-map (asked_with timers names) (λ (a : AskedName). a.name)) ∙ ap (λ (ns : List NameValue). length ns) (named timers names)

-- the lines that stop them
pub stops_named : (asked : List AskedName) → map (λ (a : AskedName). Calls (Stop a.name)) asked ≡ stops_for (map (λ (a : AskedName). a.name) asked)
stops_named [] = refl
stops_named (a ∷ asked) = ap (λ (lines : List Line). Calls (Stop a.name) ∷ lines) (stops_named asked)

-- ---- of a host

amid_from : (x : NameValue) (names : List NameValue) → Contains names x → amid x names ≡ true
amid_from x names (i, lt, e) = list_any_at (λ (n : NameValue). same_name n x) names i x lt (ap (λ (n : NameValue). same_name n x) e ∙ same_name-itself x)

pub level_seen : (host : Opened) (x : NameValue) → level (view_of host) x ≡ member_level host x
level_seen host x = levels (timers_of host.is.constants (events host)) x (names_of (events host)) (λ away.
    ap (λ (t : Timers). t.ask) (unnamed host.is.constants (events host) x (λ c. true≢false (sym (amid_from x (names_of (events host)) c) ∙ away))))

pub asked_seen : (host : Opened) → asked_with (timers_of host.is.constants (events host)) (asked_names host) ≡ (view_of host).asked
asked_seen host = again (timers_of host.is.constants (events host)) (names_of (events host))

pub count_seen : (host : Opened) → length (view_of host).asked ≡ length (asked_names host)
count_seen host = counted (timers_of host.is.constants (events host)) (names_of (events host))

pub stops_seen : (host : Opened) → map (λ (a : AskedName). Calls (Stop a.name)) (view_of host).asked ≡ stops_for (asked_names host)
stops_seen host = stops_named (view_of host).asked ∙ ap (λ (ns : List NameValue). stops_for ns) (named (timers_of host.is.constants (events host)) (names_of (events host)))
