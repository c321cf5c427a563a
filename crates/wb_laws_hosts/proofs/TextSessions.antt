-- A session of texts is one of members.
use Rattle.std.proofs.Common.{◌≡◌, ℕ, Bool, true, false, cond, List, [], ◌∷◌, ◌++◌, ◌∙◌, ap, append_assoc, eqb-true, refl, subst, sym}
use Rattle.std.specs.Prelude.{nat_eq}
use Rattle.wb_lines.specs.Taking.{met}
use Rattle.wb_member.specs.Opened.{Opened}
use Rattle.wb_dialog.specs.Dialog.{says_line}
use Rattle.wb_dialog.specs.Hosting.{Hosting}
use Rattle.wb_laws_sessions.specs.Sessions.{Step, after_deeds, host_at, steps_then}
use Rattle.wb_laws_sessions.specs.Members.{Deed}
use Rattle.wb_laws_sessions.proofs.Several.{after_all, number_at}
use Rattle.wb_laws_hosts.specs.Texts.{TextEvent, EventAt, HaveNumbers, IsMemberAt, IsNumbered, Starts, Takes, TextsAreSessions, deeds_of_event, hosting_after_event, hosting_at, steps_of_texts}
use Rattle.wb_laws_hosts.proofs.Lines.{line_after}
use Rattle.wb_laws_machines.proofs.Traces.{behind_both, happen_behind}
use Rattle.wb_laws_machines.specs.Machines.{part, whole, ◌⊑◌}

event_after : (member : Opened) (e : TextEvent) (s : Hosting) → IsNumbered member.is.number e s → IsMemberAt member s.host → IsMemberAt (after_deeds (deeds_of_event e s) member) (hosting_after_event e s).host
event_after member (Starts tuning) s numbered is = tt
event_after member (Takes line) s numbered is = line_after s.tuning s.host member (says_line (met line)) numbered is

module _ (numbers : ℕ → ℕ) where
  one_event : (e : EventAt) (older : List EventAt) → IsNumbered (numbers e.place) e.event (hosting_at older e.place) → (i : ℕ) → IsMemberAt (host_at numbers (steps_of_texts older) i) (hosting_at older i).host
      → IsMemberAt (host_at numbers (steps_of_texts (e ∷ older)) i) (hosting_at (e ∷ older) i).host
  one_event e older numbered i rest = from (nat_eq e.place i) refl where
    there : Opened
    there = host_at numbers (steps_of_texts older) i

    deeds : ℕ → List Deed
    deeds p = deeds_of_event e.event (hosting_at older p)

    Is : Opened → Hosting → Type 0
    Is member s = IsMemberAt member s.host

    from : (b : Bool) → nat_eq e.place i ≡ b → Is (host_at numbers (steps_then 0 e.place (deeds e.place) (steps_of_texts older)) i) (cond b (hosting_after_event e.event (hosting_at older i)) (hosting_at older i))
    from true same =
        let here : e.place ≡ i = eqb-true e.place i same in
        let of : IsNumbered there.is.number e.event (hosting_at older i) =
        subst (λ (n : ℕ). IsNumbered n e.event (hosting_at older i)) (sym (number_at numbers (steps_of_texts older) i)) (subst (λ (p : ℕ). IsNumbered (numbers p) e.event (hosting_at older p)) here numbered) in
        subst (λ (m : Opened). Is m (hosting_after_event e.event (hosting_at older i)))
        (sym (after_all numbers 0 e.place (deeds e.place) (steps_of_texts older) i true same ∙ ap (λ (p : ℕ). after_deeds (deeds p) there) here))
        (event_after there e.event (hosting_at older i) of rest)
    from false same = subst (λ (m : Opened). Is m (hosting_at older i)) (sym (after_all numbers 0 e.place (deeds e.place) (steps_of_texts older) i false same)) rest

pub texts_are_sessions : TextsAreSessions
texts_are_sessions numbers [] numbered i = tt
texts_are_sessions numbers (e ∷ older) numbered i = one_event numbers e older numbered.0 i (texts_are_sessions numbers older numbered.1 i)

-- ---- a part of the events

pub older_numbered : (numbers : ℕ → ℕ) {older events : List EventAt} → older ⊑ events → HaveNumbers numbers events → HaveNumbers numbers older
older_numbered numbers whole numbered = numbered
older_numbered numbers (part behind) numbered = older_numbered numbers behind numbered.1

pub texts_behind : {older events : List EventAt} → older ⊑ events → steps_of_texts older ⊑ steps_of_texts events
texts_behind whole = whole
texts_behind (part {newer = newer} {e = e} behind) =
    behind_both (texts_behind behind) (happen_behind 0 e.place (deeds_of_event e.event (hosting_at newer e.place)) (steps_of_texts newer))
