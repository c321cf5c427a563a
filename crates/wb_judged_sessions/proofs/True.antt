-- What judged members hold, send and show: as the self-managing ones.
use Rattle.std.proofs.Common.{◌≡◌, ℕ, List, ◌∙◌, ap, refl, subst, sym}
use Rattle.std.specs.Prelude.{Contains}
use Rattle.wb_names.specs.History.{IsHistory}
use Rattle.wb_names.specs.Values.{DrawopValue, MarkValue}
use Rattle.wb_names.specs.declared.name.PageId.{PageId}
use Rattle.wb_codec.specs.declared.datagram.Datagram.{Datagram}
use Rattle.wb_codec.specs.declared.datagram.Datagram.TheVariants.{AskPages, Draw, PageState, Request, Session}
use Rattle.wb_keeper.specs.Hearing.{marks_in}
use Rattle.wb_member.specs.Opened.{Opened}
use Rattle.wb_keeping.specs.Performing.{Keeping}
use Rattle.wb_laws_kept.specs.Sessions.{steps_of}
use Rattle.wb_laws_kept.proofs.Honest.{kept_are_honest}
use Rattle.wb_laws_kept.proofs.Marks.{marks_were_drawn as kept_marks_were_drawn}
use Rattle.wb_laws_kept.proofs.Steps.{kept_is_session}
use Rattle.wb_laws_sessions.specs.Drawn.{AreHonest, WasDrawn as DrawnBySteps}
use Rattle.wb_laws_sessions.specs.Sessions.{Step, host_at}
use Rattle.wb_laws_sessions.proofs.Drawn.{held_once as held_once_by_steps, held_was_drawn as held_drawn_by_steps, names_mean_one as names_by_steps}
use Rattle.wb_judged_sessions.specs.Laws.{HeldOnce, HeldWasDrawn, MarksWereDrawn, NamesMeanOne}
use Rattle.wb_judged_sessions.specs.Calls.{JudgedCall}
use Rattle.wb_judged_sessions.specs.Sessions.{At, judged_at, kept_calls, sent, WasDrawn}
use Rattle.wb_laws_machines.specs.Maps.{plain}
use Rattle.wb_judged_sessions.specs.Terms.{IsSession}
use Rattle.wb_judged_sessions.proofs.Drawn.{draws_as_kept}
use Rattle.wb_judged_sessions.proofs.Kept.{judged_is_kept}
use Rattle.wb_judged_sessions.proofs.Sent.{sends_as_kept}
use Rattle.wb_judged_sessions.proofs.Terms.{held_kept, know_kept, taken_kept}

module _ (numbers : ℕ → ℕ) (calls : List (At JudgedCall)) where
  abbrev steps : List Step
  steps = steps_of numbers (kept_calls numbers calls)

  pub host_is : (i : ℕ) → host_at numbers steps i ≡ (judged_at numbers calls i).kept.host
  host_is i = kept_is_session numbers (kept_calls numbers calls) i ∙ ap (λ (k : Keeping). k.host) (sym (judged_is_kept numbers calls i))

  drawn_here : (d : DrawopValue) → DrawnBySteps numbers steps d → WasDrawn numbers calls d
  drawn_here d w = (w.0, w.1, subst (λ (ds : List DrawopValue). Contains ds d) (sym (draws_as_kept numbers calls w.0)) w.2)

  drawn_there : (d : DrawopValue) → WasDrawn numbers calls d → DrawnBySteps numbers steps d
  drawn_there d w = (w.0, w.1, subst (λ (ds : List DrawopValue). Contains ds d) (draws_as_kept numbers calls w.0) w.2)

  honest : IsSession numbers calls → AreHonest numbers steps
  honest s = kept_are_honest numbers (kept_calls numbers calls) (taken_kept numbers calls s.taken) (held_kept numbers calls s.held) (know_kept numbers calls s.know)

-- ---- nothing is invented

pub held_was_drawn : HeldWasDrawn
held_was_drawn numbers calls s i d c =
    drawn_here numbers calls d (held_drawn_by_steps numbers (steps numbers calls) (honest numbers calls s) i d (subst (λ (host : Opened). Contains host.is.held d) (sym (host_is numbers calls i)) c))

pub names_mean_one : NamesMeanOne
names_mean_one numbers calls s d e one other same =
    names_by_steps numbers (steps numbers calls) s.apart (honest numbers calls s) d e (drawn_there numbers calls d one) (drawn_there numbers calls e other) same

pub held_once : HeldOnce
held_once numbers calls i = subst (λ (host : Opened). IsHistory host.is.held) (host_is numbers calls i) (held_once_by_steps numbers (steps numbers calls) i)

marks_plain : (page : PageId) (v : Datagram) → marks_in page (plain v) ≡ marks_in page v
marks_plain page (Draw d) = refl
marks_plain page (Session sender sent on marks echoes) = refl
marks_plain page (Request asker name) = refl
marks_plain page (AskPages asker) = refl
marks_plain page (PageState sender on marks) = refl

pub marks_were_drawn : MarksWereDrawn
marks_were_drawn numbers calls s v page m c told =
    let kept = kept_calls numbers calls in
    let r = kept_marks_were_drawn numbers kept (taken_kept numbers calls s.taken) (held_kept numbers calls s.held) (know_kept numbers calls s.know) (plain v) page m
    (sends_as_kept numbers calls v s.taken c) (subst (λ (marks : List MarkValue). Contains marks m) (sym (marks_plain page v)) told) in
    (r.0, drawn_here numbers calls r.0 r.1, r.2)
