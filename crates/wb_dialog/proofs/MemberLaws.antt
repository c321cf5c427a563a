-- Laws of what a judged member does for a line.
use Rattle.std.proofs.Common.{◌≡◌, ℕ, ◌≤◌, Bool, true, false, List, [], ◌∷◌, ◌++◌, Option, Some, None, append-nil, length, refl, sym, ap, ◌∙◌}
use Rattle.std.specs.Option.{option_map}
use Rattle.std.specs.Prelude.{nat_le, map}
use Rattle.std.proofs.lemmas.Bool.{leb-true}
use Rattle.wb_names.specs.Faults.{fault_unless, first_of}
use Rattle.wb_codec.specs.declared.datagram.Datagram.{Datagram}
use Rattle.wb_judge.specs.Adding.{adding_fault, own_echo}
use Rattle.wb_judge.specs.Days.{time_of_day}
use Rattle.wb_judge.specs.Judging.{draws}
use Rattle.wb_member.specs.Opened.{present}
use Rattle.wb_keeping.specs.Kept.{adds, came, ticks}
use Rattle.wb_keeping.specs.Laws.{KeptLine, Added, Came as CameIn, Ticked, Tuned, doing_of, fault_of, sent_by_kept}
use Rattle.wb_keeping.specs.Performing.{Keeping, after_doing, sent_by_doing}
use Rattle.wb_keeping.specs.Refusing.{add_fault, back_in_time, came_as, drawn_as}
use Rattle.wb_keeping.specs.declared.kept_fault.KeptFault.{KeptFault}
use Rattle.wb_keeping.specs.declared.kept_fault.KeptFault.TheVariants.{Numbers}
use Rattle.wb_judging.specs.Echoing.{echoing}
use Rattle.wb_judging.specs.Handing.{handed}
use Rattle.wb_judging.specs.Calling.{call_fault}
use Rattle.wb_judging.specs.Judged.{Judged, moment_of}
use Rattle.wb_judging.specs.declared.call.Call.{Call}
use Rattle.wb_judging.specs.declared.call.Call.TheVariants.{CameFrom, Held, Passed, UserDrew}
use Rattle.wb_judging.specs.Performing.{after_judged, after_kept_line, events_of, judging, sent_by_kept_line}
use Rattle.wb_judging.specs.Refusing.{has_number, held_fault}
use Rattle.wb_judging.specs.declared.judged_fault.JudgedFault.{JudgedFault}
use Rattle.wb_judging.specs.declared.judged_fault.JudgedFault.TheVariants.{Judge, Kept as KeptBy}
use Rattle.wb_judging.proofs.AsKept.{sends_as_kept}
use Rattle.wb_judging.proofs.Followed.{the_network_refuses_nothing}
use Rattle.wb_judging.proofs.Recorded.{records_come_first}
use Rattle.wb_dialog.specs.Hosting.{Kept, came_text, kept_does, kept_reply, prints, unsent_text}
use Rattle.wb_commands.specs.SentLines.{sends_text}
use Rattle.wb_dialog.specs.Judged.{did, does}
use Rattle.wb_dialog.specs.JudgedLaws.{JudgedIsKept, RecordBeforeSend, line_of_kept}
use Rattle.wb_dialog.specs.Texts.{events_text}
use Rattle.wb_dialog.proofs.OwnHosts.{hosts_own}

-- ---- what a line that is not refused does

-- a call that was not refused
record IsDone (fault : Option JudgedFault) (call : Call) (h next : Judged) (text : List ℕ) : Type 0 where
  none : fault ≡ None
  next_is : next ≡ after_judged call h
  text_is : text ≡ events_text (events_of call h)

does_is : (h next : Judged) (text other : List ℕ) → does h text ≡ does next other → (next ≡ h) × (other ≡ text)
does_is h next text other e = (cc, cc)

is_done : (fault : Option JudgedFault) (call : Call) (h next : Judged) (text : List ℕ) → did fault call h ≡ does next text → IsDone fault call h next text
is_done None call h next text e = let is = does_is (after_judged call h) next (events_text (events_of call h)) text e in record { none = refl; next_is = is.0; text_is = is.1 }
is_done (Some e') call h next text e = absurd cc

pub record_before_send : RecordBeforeSend
record_before_send call h next text e = let d = is_done (call_fault call h) call h next text e in record { next_is = d.next_is; text_is = d.text_is; order = records_come_first call h }

-- ---- the kept member is handed a line that it takes

no_fault : {F G : Type 0} (f : F → G) (fault : Option F) → option_map f fault ≡ None → fault ≡ None
no_fault f None e = refl
no_fault f (Some x) e = absurd cc

in_time : (t : Bool) (fault : KeptFault) → fault_unless t fault ≡ None → t ≡ true
in_time true fault e = refl
in_time false fault e = absurd cc

not_back : (now : ℕ) (k : Keeping) → back_in_time now k ≡ None → present k.host ≤ now
not_back now k e = leb-true (present k.host) now (in_time (nat_le (present k.host) now) _ e)

last_none : {F : Type 0} (a b c : Option F) → first_of (a ∷ b ∷ c ∷ []) ≡ None → c ≡ None
last_none None None None e = refl
last_none None None (Some x) e = absurd cc
last_none None (Some x) c e = absurd cc
last_none (Some x) b c e = absurd cc

abbrev Owns : Judged → Type 0
Owns h = h.judge.me ≡ h.kept.host.is.number

abbrev Takes : Judged → Call → Type 0
Takes h call = fault_of (handed call h) h.kept ≡ None

-- what others give is not before the present moment
by_others : (now : ℕ) (call : Call) (h : Judged) → (present h.kept.host ≤ now → Takes h call) → option_map KeptBy (back_in_time now h.kept) ≡ None → Takes h call
by_others now call h take none = take (not_back now h.kept (no_fault KeptBy (back_in_time now h.kept) none))

takes : (call : Call) (h : Judged) → Owns h → call_fault call h ≡ None → Takes h call
takes (CameFrom now o v) h own none = by_others now (CameFrom now o v) h (the_network_refuses_nothing (CameFrom now o v) h own refl) none
takes (Passed now news) h own none = by_others now (Passed now news) h (the_network_refuses_nothing (Passed now news) h own refl) none
takes (UserDrew now page op) h own none =
    let drawn = last_none (option_map Judge (adding_fault (draws op) (length h.kept.host.is.held) h.judge)) (fault_unless (has_number page h.kept.host) (KeptBy Numbers)) (option_map KeptBy (add_fault now page (time_of_day h.judge.clock now) op h.kept)) none in
    no_fault KeptBy (add_fault now page (time_of_day h.judge.clock now) op h.kept) drawn
takes (Held line) h own none = no_fault KeptBy (held_fault line h) none

-- ---- and a self-managing host answers that line

record IsReplied (line : KeptLine) (k : Keeping) : Type 0 where
  rest : List ℕ
  is : kept_reply (line_of_kept line) k ≡ prints (Some (Kept (after_doing (doing_of line) k))) (sends_text (sent_by_doing (doing_of line) k) ++ rest)

replied : (line : KeptLine) (k : Keeping) → fault_of line k ≡ None → IsReplied line k
replied (CameIn now v) k none = record { rest = came_text v (came_as v k.host); is = ap (λ (f : Option KeptFault). kept_does f (came now v) (came_text v (came_as v k.host)) k) none }
replied (Ticked now) k none = record { rest = []; is = ap (λ (f : Option KeptFault). kept_does f (ticks now) [] k) none }
replied (Added now page time op) k none = record { rest = unsent_text (drawn_as page time op k.host); is = ap (λ (f : Option KeptFault). kept_does f (adds now page time op) (unsent_text (drawn_as page time op k.host)) k) none }
replied (Tuned constants) k none = record { rest = []; is = refl }

pub judged_is_kept : JudgedIsKept
unfolding after_kept_line sent_by_kept_line
judged_is_kept tuning before call h next text at e =
    let own = hosts_own tuning before h at in
    let d = is_done (call_fault call h) call h next text e in
    let line = handed call h in
    let r = replied line h.kept (takes call h own d.none) in
    let sent : sent_by_kept (line ∷ []) h.kept ≡ sent_by_doing (doing_of line) h.kept = append-nil (sent_by_doing (doing_of line) h.kept) in record {
      rest = r.rest;
      reply_is = r.is ∙ ap (λ (k : Keeping). prints (Some (Kept k)) (sends_text (sent_by_doing (doing_of line) h.kept) ++ r.rest)) (sym (ap (λ (n : Judged). n.kept) d.next_is))
          ∙ ap (λ (s : List Datagram). prints (Some (Kept next.kept)) (sends_text s ++ r.rest)) (sym sent);
      sends = sends_as_kept call h ∙ ap (map (echoing (own_echo (moment_of call h) (judging call h)))) (sym sent);
    }
