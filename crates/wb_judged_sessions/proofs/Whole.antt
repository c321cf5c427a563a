-- All of a session has come to judged members in time.
use Rattle.std.proofs.Common.{◌≡◌, ◌<◌, ◌≤◌, ℕ, true, List, [], ◌∷◌, ◌++◌, ◌∙◌, ap, arith, refl, subst, sym}
use Rattle.std.specs.Prelude.{Contains}
use Rattle.wb_names.specs.Values.{DrawopValue, NameValue}
use Rattle.wb_progress.specs.Turns.{Terms}
use Rattle.wb_member.specs.Judged.{holds}
use Rattle.wb_member.specs.Opened.{Opened}
use Rattle.wb_keeping.specs.Performing.{Keeping}
use Rattle.wb_laws_kept.specs.Sessions.{At, kept_at}
use Rattle.wb_kept_progress.specs.Agreement.{LookAlike, NamesMeanOneAt}
use Rattle.wb_kept_progress.specs.Since.{hosts_of, since}
use Rattle.wb_kept_progress.specs.Timed.{time_of}
use Rattle.wb_kept_progress.specs.Whole.{Sizes, there, whole_by}
use Rattle.wb_kept_progress.proofs.Agreeing.{sessions_agree}
use Rattle.wb_kept_progress.proofs.Since.{quiet_first, restarted_become_whole, restarted_become_whole_by_rounds, restarted_become_whole_in_crowds, restarted_fill_holes, since_is_same, since_is_timely}
use Rattle.wb_judged_sessions.specs.Calls.{JudgedCall}
use Rattle.wb_judged_sessions.specs.Sessions.{judged_at, kept_calls, WasDrawn}
use Rattle.wb_judged_sessions.specs.Terms.{IsSession}
use Rattle.wb_judged_sessions.specs.Timely.{IsTimely, JudgedAgree, JudgedBecomeWhole, JudgedBecomeWholeByRounds, JudgedBecomeWholeInCrowds, JudgedFillHoles}
use Rattle.wb_judged_sessions.proofs.InTime.{judged_is_timely}
use Rattle.wb_judged_sessions.proofs.Kept.{calls_split, judged_is_kept}
use Rattle.wb_judged_sessions.proofs.Timely.{called_kept, line_is}
use Rattle.wb_judged_sessions.proofs.True.{held_was_drawn, names_mean_one}
use Rattle.wb_laws_kept.specs.Calls.{Call}

module _ (numbers : ℕ → ℕ) (calls newer later : List (At JudgedCall)) (split : calls ≡ newer ++ later) where
  pub kept_split : kept_calls numbers calls ≡ (calls_split numbers newer later).0 ++ kept_calls numbers later
  kept_split = ap (kept_calls numbers) split ∙ (calls_split numbers newer later).1

  pub holds_there : (i : ℕ) (n : NameValue) → holds (kept_at numbers (kept_calls numbers later) i).host n ≡ true → holds (judged_at numbers later i).kept.host n ≡ true
  holds_there i n held = subst (λ (k : Keeping). holds k.host n ≡ true) (sym (judged_is_kept numbers later i)) held

  pub later_than_kept : (time : ℕ) → time < time_of later → time < time_of (kept_calls numbers later)
  later_than_kept time late = let same = called_kept numbers later in omega (arith, late, same)

pub judged_become_whole : JudgedBecomeWhole
judged_become_whole numbers terms calls newer later sizes wait most i n s within soon waits lack short some split late live =
    holds_there numbers calls newer later split i n
    (restarted_become_whole numbers terms (kept_calls numbers calls) (calls_split numbers newer later).0 (kept_calls numbers later) sizes wait most i n
    (judged_is_timely numbers terms calls s) within soon waits lack short some
    (kept_split numbers calls newer later split) (later_than_kept numbers calls newer later split _ late) live)

pub judged_become_whole_by_rounds : JudgedBecomeWholeByRounds
judged_become_whole_by_rounds numbers terms calls newer later since pause wait most places rounds i n s reports waits lack new filled enough some split late live =
    holds_there numbers calls newer later split i n
    (restarted_become_whole_by_rounds numbers terms (kept_calls numbers calls) (calls_split numbers newer later).0 (kept_calls numbers later) since pause wait most places rounds i n
    (judged_is_timely numbers terms calls s) reports waits lack new filled enough some
    (kept_split numbers calls newer later split) (later_than_kept numbers calls newer later split _ late) live)

pub judged_become_whole_in_crowds : JudgedBecomeWholeInCrowds
judged_become_whole_in_crowds numbers terms calls newer later since wait most places bringing crowded i n s waits lack filled brings enough some split late live =
    holds_there numbers calls newer later split i n
    (restarted_become_whole_in_crowds numbers terms (kept_calls numbers calls) (calls_split numbers newer later).0 (kept_calls numbers later) since wait most places bringing crowded i n
    (judged_is_timely numbers terms calls s) waits lack filled brings enough some
    (kept_split numbers calls newer later split) (later_than_kept numbers calls newer later split _ late) live)

pub judged_fill_holes : JudgedFillHoles
judged_fill_holes numbers terms calls newer later since wait most crowded i n s waits lack holes_held only enough some split late live =
    holds_there numbers calls newer later split i n
    (restarted_fill_holes numbers terms (kept_calls numbers calls) (calls_split numbers newer later).0 (kept_calls numbers later) since wait most crowded i n
    (judged_is_timely numbers terms calls s) waits lack holes_held only enough some
    (kept_split numbers calls newer later split) (later_than_kept numbers calls newer later split _ late) live)

-- ---- they look alike

whole_is_late : (terms : Terms) (sizes : Sizes) (wait most time : ℕ) → whole_by terms sizes wait most < time → terms.quiet < time
whole_is_late terms sizes wait most time late =
    let le : terms.quiet ≤ whole_by terms sizes wait most = quiet_first terms.quiet terms.delivery _ wait _ sizes.since _ in
    omega (arith, late, le)

module _ (numbers : ℕ → ℕ) (calls : List (At JudgedCall)) where
  abbrev kept : List (At Call)
  kept = kept_calls numbers calls

  member_is : (i : ℕ) → (there (hosts_of numbers kept) (since numbers kept) i).host ≡ (judged_at numbers calls i).kept.host
  member_is i = ap (λ (k : Keeping). k.host) (since_is_same numbers kept i ∙ sym (judged_is_kept numbers calls i))

  one_name : IsSession numbers calls → (i j : ℕ) → NamesMeanOneAt (hosts_of numbers kept) (since numbers kept) i j
  one_name s i j d e held other same =
      let drawn : (k : ℕ) (x : DrawopValue) → Contains (there (hosts_of numbers kept) (since numbers kept) k).host.is.held x → WasDrawn numbers calls x =
      λ k x c. held_was_drawn numbers calls s k x (subst (λ (host : Opened). Contains host.is.held x) (member_is k) c) in
      names_mean_one numbers calls s d e (drawn i d held) (drawn j e other) same

called_since : (numbers : ℕ → ℕ) (terms : Terms) (calls : List (At JudgedCall)) → IsTimely numbers terms calls → terms.quiet < time_of calls
    → time_of (since numbers (kept_calls numbers calls)) ≡ time_of calls
called_since numbers terms [] s late = refl
called_since numbers terms (e ∷ older) s late =
    let t = (s.alone [] older e refl late).1 in
    ap (λ (cs : List (At Call)). time_of (since numbers cs)) (line_is numbers e older t)

pub judged_agree : JudgedAgree
judged_agree numbers terms calls sizes wait most i j s session within soon waits lack short late live_i live_j =
    let kept = kept_calls numbers calls in
    let hosts = hosts_of numbers kept in
    let trace = since numbers kept in
    let time = called_since numbers terms calls s (whole_is_late terms sizes wait most (time_of calls) late) in
    let alike = sessions_agree hosts terms trace [] trace sizes wait most i j (since_is_timely numbers terms kept (judged_is_timely numbers terms calls s)) within soon waits lack short refl
    (subst (λ (t : ℕ). whole_by terms sizes wait most < t) (sym time) late) live_i live_j (one_name numbers calls session i j) in
    subst (λ (host : Opened). LookAlike host.is.held (judged_at numbers calls j).kept.host.is.held) (member_is numbers calls i)
    (subst (λ (host : Opened). LookAlike (there hosts trace i).host.is.held host.is.held) (member_is numbers calls j) alike)
