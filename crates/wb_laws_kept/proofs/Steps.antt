-- Self-managing members are members of a session: calls are steps.
use Rattle.std.proofs.Common.{◌≡◌, ℕ, Bool, true, false, cond, List, [], ◌∷◌, ◌++◌, ◌∙◌, ap, eqb-true, refl, sym}
use Rattle.std.specs.Prelude.{nat_eq}
use Rattle.wb_member.specs.Lines.{ticks_at}
use Rattle.wb_member.specs.Opened.{Opened, opened_with}
use Rattle.wb_keeping.specs.Laws.{KeptLine, doing_of, expand}
use Rattle.wb_laws_kept.specs.Openings.{opened}
use Rattle.wb_keeping.specs.Performing.{Keeping, sees}
use Rattle.wb_keeping.proofs.KeptHosts.{kept_hosts_are_hosts}
use Rattle.wb_keeping.proofs.Performed.{after_both}
use Rattle.wb_laws_sessions.specs.Sessions.{after_deeds, host_at, steps_then}
use Rattle.wb_laws_sessions.specs.Members.{Deed}
use Rattle.wb_laws_sessions.proofs.Several.{after_all, after_performed}
use Rattle.wb_laws_kept.specs.Kept.{deeds_of}
use Rattle.wb_laws_kept.specs.Sessions.{At, KeptIsSession, kept_at, steps_of}
use Rattle.wb_laws_kept.specs.Calls.{Begins, Call, Handed, after_call, given_lines}

pub call_is : (call : Call) (k : Keeping) → after_deeds (deeds_of call k) k.host ≡ (after_call call k).host
call_is (Handed line) k = after_performed (doing_of line (sees k.host) k.policy).lines k.host
call_is (Begins o given) k =
    let first : Keeping = opened k.host.is.number o in
    let lines : List KeptLine = given_lines first given in
    let start : Opened = opened_with o.constants k.host.is.number o.cells o.seed in
    after_performed (ticks_at o.moments ++ expand lines first) start
    ∙ after_both (ticks_at o.moments) (expand lines first) start
    ∙ sym (kept_hosts_are_hosts lines first).0

module _ (numbers : ℕ → ℕ) where
  one_call : (e : At Call) (older : List (At Call)) (i : ℕ) → host_at numbers (steps_of numbers older) i ≡ (kept_at numbers older i).host → host_at numbers (steps_of numbers (e ∷ older)) i ≡ (kept_at numbers (e ∷ older) i).host
  one_call e older i rest = from (nat_eq e.place i) refl where
    deeds : ℕ → List Deed
    deeds p = deeds_of e.event (kept_at numbers older p)

    from : (b : Bool) → nat_eq e.place i ≡ b → host_at numbers (steps_then e.time e.place (deeds e.place) (steps_of numbers older)) i ≡ (cond b (after_call e.event (kept_at numbers older i)) (kept_at numbers older i)).host
    from true same =
        after_all numbers e.time e.place (deeds e.place) (steps_of numbers older) i true same
        ∙ ap (after_deeds (deeds e.place)) rest
        ∙ ap (λ (p : ℕ). after_deeds (deeds p) (kept_at numbers older i).host) (eqb-true e.place i same)
        ∙ call_is e.event (kept_at numbers older i)
    from false same = after_all numbers e.time e.place (deeds e.place) (steps_of numbers older) i false same ∙ rest

pub kept_is_session : KeptIsSession
kept_is_session numbers [] i = refl
kept_is_session numbers (e ∷ older) i = one_call numbers e older i (kept_is_session numbers older i)
