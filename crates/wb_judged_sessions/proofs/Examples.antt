-- The example computes.
use Rattle.std.proofs.Common.{◌≡◌, ℕ, ◌<◌, List, [], ◌∷◌, ap, arith, inl, inr, refl, subst, sym}
use Rattle.std.specs.Prelude.{Contains}
use Rattle.wb_names.specs.Values.{DrawopValue}
use Rattle.wb_names.specs.declared.name.PageId.{PageId}
use Rattle.wb_names.specs.declared.parts.Op.{Op}
use Rattle.wb_names.proofs.Listings.{Contains-none}
use Rattle.wb_codec.specs.declared.datagram.Datagram.TheVariants.{Draw}
use Rattle.wb_gaps.specs.Answers.{gaps_of, pages_of, report_of}
use Rattle.wb_judge.specs.Firm.{is_firm_beside}
use Rattle.wb_judge.specs.Judging.{drawop_verdict, is_ahead, is_forged_drawop}
use Rattle.wb_judge.specs.Known.{is_known}
use Rattle.wb_judge.specs.Others.{is_bound_elsewhere}
use Rattle.wb_judge.specs.Strange.{is_over, is_wide, with_given, without_name}
use Rattle.wb_judge.specs.Told.{leaves_holes}
use Rattle.wb_member.specs.Opened.{present}
use Rattle.wb_member.specs.Random.{after_word, started as random_started, word_of}
use Rattle.wb_policy.specs.Choices.{near_names}
use Rattle.wb_policy.specs.Words as words
use Rattle.wb_judging.specs.Handing.{judge_after, verdict_on}
use Rattle.wb_judging.specs.declared.call.Call.{Call}
use Rattle.wb_judging.specs.declared.call.Call.TheVariants.{CameFrom, Held, Passed, UserDrew}
use Rattle.wb_judging.specs.Laws.{drawops_of}
use Rattle.wb_judging.specs.Performing.{after_kept_line, sent_by_kept_line}
use Rattle.wb_judging.specs.declared.record.RecordLine.{RecordLine}
use Rattle.wb_laws_machines.specs.Honest.{AreApart}
use Rattle.wb_laws_sessions.proofs.Sending.{one_of}
use Rattle.wb_judged_sessions.specs.Examples.{IsShared, again, deletes, drawing, drawn, both_started, file, heard, numbers, one_started, page, somewhere, start}
use Rattle.wb_judged_sessions.specs.Calls.{brought_by, JudgedCall, Start, Starts, Takes, Tunes}
use Rattle.wb_judged_sessions.specs.Sessions.{At, drawn_at, judged_at, WasHeld}
use Rattle.wb_judged_sessions.specs.Terms.{AreTaken, DrawopsWereHeld, file_at, IsItsFile, KeepFiles, KnowsItsOwn, KnowTheirOwn}
use Rattle.wb_judged_sessions.proofs.Meeting.{is_opening}
use Rattle.wb_laws_machines.specs.Machines.{part, whole}

-- ---- what is held, drawn and recorded

drew : drawn_at numbers drawn 0 ≡ drawing ∷ []
unfolding random_started word_of after_word words.started report_of gaps_of pages_of near_names after_kept_line sent_by_kept_line
drew = refl

drew_all : drawn_at numbers again 0 ≡ drawing ∷ []
unfolding random_started word_of after_word words.started report_of gaps_of pages_of near_names after_kept_line sent_by_kept_line
drew_all = refl

held_there : (judged_at numbers drawn 0).kept.host.is.held ≡ drawing ∷ []
unfolding random_started word_of after_word words.started report_of gaps_of pages_of near_names after_kept_line sent_by_kept_line
held_there = refl

held_here : (judged_at numbers heard 1).kept.host.is.held ≡ drawing ∷ []
unfolding random_started word_of after_word words.started report_of gaps_of pages_of near_names after_kept_line sent_by_kept_line
    verdict_on judge_after drawop_verdict is_forged_drawop is_known is_firm_beside is_bound_elsewhere is_ahead is_over is_wide leaves_holes with_given without_name
held_here = refl

held_again : (judged_at numbers again 1).kept.host.is.held ≡ drawing ∷ []
unfolding random_started word_of after_word words.started report_of gaps_of pages_of near_names after_kept_line sent_by_kept_line
    verdict_on judge_after drawop_verdict is_forged_drawop is_known is_firm_beside is_bound_elsewhere is_ahead is_over is_wide leaves_holes with_given without_name
held_again = refl

told : file_at numbers heard 1 ≡ file
unfolding random_started word_of after_word words.started report_of gaps_of pages_of near_names after_kept_line sent_by_kept_line
    verdict_on judge_after drawop_verdict is_forged_drawop is_known is_firm_beside is_bound_elsewhere is_ahead is_over is_wide leaves_holes with_given without_name
told = refl

-- ---- what is asked of a session

apart : AreApart numbers
apart i j same = omega (arith, same)

moment_there : present (judged_at numbers drawn 1).kept.host ≡ 1
unfolding random_started word_of after_word words.started report_of gaps_of pages_of near_names after_kept_line sent_by_kept_line
moment_there = refl

all_taken : AreTaken numbers again
unfolding random_started word_of after_word words.started report_of gaps_of pages_of near_names after_kept_line sent_by_kept_line
    verdict_on judge_after drawop_verdict is_forged_drawop is_known is_firm_beside is_bound_elsewhere is_ahead is_over is_wide leaves_holes with_given without_name
all_taken = ((is_opening 3 7, (refl, (refl, tt))), (omega arith, (refl, ((is_opening 2 1, tt), ((is_opening 1 1, tt), tt)))))

brought : brought_by (Takes (CameFrom 4 somewhere (Draw drawing))) (judged_at numbers drawn 1) ≡ drawing ∷ []
unfolding random_started word_of after_word words.started report_of gaps_of pages_of near_names after_kept_line sent_by_kept_line
    verdict_on judge_after drawop_verdict is_forged_drawop is_known is_firm_beside is_bound_elsewhere is_ahead is_over is_wide leaves_holes with_given without_name
brought = refl

first : 0 < 1
first = omega arith

was_held : (d : DrawopValue) → Contains (drawing ∷ []) d → WasHeld numbers drawn d
unfolding random_started word_of after_word words.started report_of gaps_of pages_of near_names after_kept_line sent_by_kept_line
was_held d c = subst (WasHeld numbers drawn) (one_of drawing d c) (record { older = drawn; behind = whole; place = 0; held = (0, first, refl) })

held_since : (d : DrawopValue) → Contains (drawing ∷ []) d → WasHeld numbers heard d
held_since d c = record {
  older = drawn;
  behind = part whole;
  place = 0;
  held = subst (λ (ds : List DrawopValue). Contains ds d) (sym held_there) c;
}

none_brought : (calls : List (At JudgedCall)) (d : DrawopValue) → Contains [] d → WasHeld numbers calls d
none_brought calls d c = absurd (Contains-none d c)

all_held : DrawopsWereHeld numbers again
unfolding random_started word_of after_word words.started report_of gaps_of pages_of near_names after_kept_line sent_by_kept_line
all_held = (
  held_since,
  (
    (λ d c. was_held d (subst (λ (ds : List DrawopValue). Contains ds d) brought c)),
    (
      none_brought both_started,
      (none_brought one_started, (none_brought [], tt)),
    ),
  ),
)

-- before its user draws it has drawn nothing
module _ (older : List (At JudgedCall)) (place : ℕ) where
  abbrev KnowsAt : Call → Type 0
  KnowsAt (UserDrew now on op) = KnowsItsOwn numbers older place on
  KnowsAt (CameFrom now o v) = Unit {0}
  KnowsAt (Passed now news) = Unit {0}
  KnowsAt (Held line) = Unit {0}

  abbrev Knows : JudgedCall → Type 0
  Knows (Takes line) = KnowsAt line
  Knows (Tunes constants) = Unit {0}
  Knows (Starts start given) = Unit {0}

  knows_by : (call : JudgedCall) → Knows call → (now : ℕ) (on : PageId) (op : Op) → call ≡ Takes (UserDrew now on op) → KnowsItsOwn numbers older place on
  knows_by call knows now on op e = subst Knows e knows

  abbrev pub HasIts : JudgedCall → Type 0
  HasIts (Starts start given) = IsItsFile numbers older place start given
  HasIts (Takes line) = Unit {0}
  HasIts (Tunes constants) = Unit {0}

  pub its_by : (call : JudgedCall) → HasIts call → (start : Start) (given : List RecordLine) → call ≡ Starts start given → IsItsFile numbers older place start given
  its_by call its start given e = subst HasIts e its

all_know : KnowTheirOwn numbers again
all_know = (
  knows_by heard 1 (Starts (start 3 7) file) tt,
  (
    knows_by drawn 1 (Takes (CameFrom 4 somewhere (Draw drawing))) tt,
    (
      knows_by both_started 0 (Takes (UserDrew 3 page deletes)) (λ d c on. absurd (Contains-none d c)),
      (knows_by one_started 1 (Starts (start 2 1) []) tt, (knows_by [] 0 (Starts (start 1 1) []) tt, tt)),
    ),
  ),
)

cells_here : 8 ≡ (judged_at numbers heard 1).kept.host.is.cells
unfolding random_started word_of after_word words.started report_of gaps_of pages_of near_names after_kept_line sent_by_kept_line
    verdict_on judge_after drawop_verdict is_forged_drawop is_known is_firm_beside is_bound_elsewhere is_ahead is_over is_wide leaves_holes with_given without_name
cells_here = refl

all_files : KeepFiles numbers again
all_files = (
  its_by heard 1 (Starts (start 3 7) file) (inr (ap drawops_of (sym told), cells_here)),
  (
    its_by drawn 1 (Takes (CameFrom 4 somewhere (Draw drawing))) tt,
    (
      its_by both_started 0 (Takes (UserDrew 3 page deletes)) tt,
      (its_by one_started 1 (Starts (start 2 1) []) (inl refl), (its_by [] 0 (Starts (start 1 1) []) (inl refl), tt)),
    ),
  ),
)

pub it_is_shared : IsShared
it_is_shared = record {
  session = record { apart = apart; taken = all_taken; held = all_held; know = all_know };
  files = all_files;
  drew = drew_all;
  told = told;
  held = held_here;
  still = held_again;
}
