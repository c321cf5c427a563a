-- A member that is handed the record of another holds the same, and the same is strange.
use Rattle.std.proofs.Common.{◌≡◌, ◌⊎◌, ◌∙◌, ℕ, ◌≤◌, Bool, true, false, cond, List, [], ◌∷◌, ◌++◌, None, ap, append-nil, arith, drop, filter, inl, inr, length, map, refl, subst, sym, true≢false}
use Rattle.std.specs.Prelude.{◌||◌, Option, Some, nat_lt, not, option_to_list}
use Rattle.std.proofs.lemmas.Bool.Decides.{nat_tests}
use Rattle.std.proofs.lemmas.Bool.{ltb-false, or_right}
use Rattle.std.proofs.lemmas.List.{drop_at}
use Rattle.wb_names.specs.Arrivals.{Clash, New, Again, Left, Outcome, history_after, history_with, outcome_of}
use Rattle.wb_names.specs.Orders.{same_name}
use Rattle.wb_names.specs.Values.{DrawopValue, MarkValue, NameValue}
use Rattle.wb_names.specs.declared.name.PageId.{PageId}
use Rattle.wb_names.proofs.Orders.{same_name-itself}
use Rattle.wb_codec.specs.declared.datagram.Datagram.{Datagram}
use Rattle.wb_codec.specs.declared.datagram.Datagram.TheVariants.{AskPages, Draw, PageState, Request, Session}
use Rattle.wb_keeper.specs.Keeper.{holds}
use Rattle.wb_judge.specs.Judge.{Judge, after_taking, knows}
use Rattle.wb_judge.specs.Judging.{after_coming, after_judging}
use Rattle.wb_judge.specs.Laws.{is_answer, speaker_in}
use Rattle.wb_judge.specs.Reports.{mark_in}
use Rattle.wb_judge.specs.Shares.{Shares}
use Rattle.wb_judge.specs.Strange.{given_by, has_name, is_given_by, names_of, with_given, with_one, without_name, without_origin}
use Rattle.wb_judge.specs.declared.facts.Facts.{Facts}
use Rattle.wb_judge.specs.declared.origin.Origin.{Origin}
use Rattle.wb_judge.specs.declared.strange.Given.{Given}
use Rattle.wb_judge.specs.declared.verdict.Why.{Why}
use Rattle.wb_judge.proofs.Outcome.{Heard, Same, outcome}
use Rattle.wb_judge.proofs.Sizes.{filter_length}
use Rattle.wb_keeping.specs.Laws.{Came, KeptLine, Ticked}
use Rattle.wb_keeping.specs.Performing.{Keeping}
use Rattle.wb_keeping.proofs.WantedNames.{held_with}
use Rattle.wb_member.specs.Opened.{Opened, last_number, present}
use Rattle.wb_judging.specs.Events.{fate_of, is_new}
use Rattle.wb_judging.specs.Handing.{facts_of, handed, handed_for, judge_after, verdict_on}
use Rattle.wb_judging.specs.Hearing.{after_fate, after_recalling, after_sending, after_sends, with_strange}
use Rattle.wb_judging.specs.Judged.{Call, CameFrom, Held, Judged, Passed, UserDrew, giver_of, moment_of}
use Rattle.wb_judging.specs.Laws.{ItBeginsAgain, TheRecordIsTheBoard, after_all, drawops_in, drawops_of, record_by, record_of}
use Rattle.wb_judging.specs.Performing.{after_judged, fate_by, first_lines, gained, judging, lines_of, sent_by_kept_line}
use Rattle.wb_judging.specs.Recording.{freed, gain_lines, line_of, mark_lines, named, new_mark, new_mark_of, new_owner, owner_by, owner_lines}
use Rattle.wb_judging.specs.declared.event.Fate.{Fate}
use Rattle.wb_judging.specs.declared.record.Giver.{Giver}
use Rattle.wb_judging.specs.declared.record.Giver.TheVariants.{Others}
use Rattle.wb_judging.specs.declared.record.RecordLine.{RecordLine}
use Rattle.wb_judging.specs.declared.record.RecordLine.TheVariants.{Known, Mark, Owner, Said, Strange, Tick}
use Rattle.wb_judging.proofs.Boards.{IsOther, gained_heard, gained_kept, gained_ticked, gains_kept, held_drawn, held_recalled, takes_kept}
use Rattle.wb_judging.proofs.Histories.{Of, after_both, all_held, fresh_is_new, holds_last, of_both, of_filter, of_so, taken_again}
use Rattle.wb_judging.proofs.NewsTold.{news_keeps}
use Rattle.wb_judging.proofs.Recorded.{line_recorded, noted}
use Rattle.wb_judging.proofs.StrangeNames.{Once, each_given, freed_names, has, has_is, less, less_all, less_none, more, named_none, names_less, names_more, none_has, not_held_has, not_held_none, once_filter, once_given, once_last}

-- ---- the drawops of a record

pub drawops_both : (one other : List RecordLine) → drawops_of (one ++ other) ≡ drawops_of one ++ drawops_of other
drawops_both [] other = refl
drawops_both (Tick now ∷ one) other = drawops_both one other
drawops_both (Said d ∷ one) other = ap (λ (ds : List DrawopValue). d ∷ ds) (drawops_both one other)
drawops_both (Known d ∷ one) other = ap (λ (ds : List DrawopValue). d ∷ ds) (drawops_both one other)
drawops_both (Strange d ∷ one) other = ap (λ (ds : List DrawopValue). d ∷ ds) (drawops_both one other)
drawops_both (Mark speaker page mark ∷ one) other = drawops_both one other
drawops_both (Owner number place owner ∷ one) other = drawops_both one other

pub drawops_noted : (now : ℕ) (lines : List RecordLine) → drawops_of (noted now lines) ≡ drawops_of lines
drawops_noted now [] = refl
drawops_noted now (line ∷ lines) = refl

pub drawops_said : (ds : List DrawopValue) → drawops_of (map Said ds) ≡ ds
drawops_said [] = refl
drawops_said (d ∷ ds) = ap (λ (es : List DrawopValue). d ∷ es) (drawops_said ds)

drawops_known : (ds : List DrawopValue) → drawops_of (map Known ds) ≡ ds
drawops_known [] = refl
drawops_known (d ∷ ds) = ap (λ (es : List DrawopValue). d ∷ es) (drawops_known ds)

pub drawops_given : (given : List Given) (ds : List DrawopValue) → drawops_of (map (line_of given) ds) ≡ ds
drawops_given given [] = refl
drawops_given given (d ∷ ds) = by (has_name d.name given) ∙ ap (λ (es : List DrawopValue). d ∷ es) (drawops_given given ds) where
  by : (b : Bool) → drawops_in (cond b (Strange d) (Known d)) ++ drawops_of (map (line_of given) ds) ≡ d ∷ drawops_of (map (line_of given) ds)
  by true = refl
  by false = refl

-- ---- marks and owners

abbrev IsAside : RecordLine → Type 0
IsAside (Tick now) = ⊥
IsAside (Said d) = ⊥
IsAside (Known d) = ⊥
IsAside (Strange d) = ⊥
IsAside (Mark speaker page mark) = Unit {0}
IsAside (Owner number place owner) = Unit {0}

one_mark : (speaker : ℕ) (page : PageId) (mark : Option MarkValue) (host : Opened) → Of IsAside (option_to_list (new_mark speaker page mark host))
one_mark speaker page None host = tt
one_mark speaker page (Some mark) host = by (nat_lt (last_number page host) mark.high) where
  by : (b : Bool) → Of IsAside (option_to_list (cond b (Some (Mark speaker page mark)) None))
  by true = (tt, tt)
  by false = tt

mark_of : (v : Datagram) (host : Opened) → Of IsAside (option_to_list (new_mark_of v host))
mark_of (Draw d) host = tt
mark_of (Session sender sent page marks echoes) host = one_mark sender page (mark_in host.is.number marks) host
mark_of (Request asker name) host = tt
mark_of (AskPages asker) host = tt
mark_of (PageState sender page marks) host = one_mark sender page (mark_in host.is.number marks) host

are_marks : (now : ℕ) (v : Datagram) (why : Option Why) (k : Keeping) → Of IsAside (mark_lines now v why k)
are_marks now v None k = by (nat_lt now k.policy.ready) where
  by : (b : Bool) → Of IsAside (cond b (option_to_list (new_mark_of v k.host)) [])
  by true = mark_of v k.host
  by false = tt
are_marks now v (Some why) k = tt

is_owner : (speaker : Option ℕ) (place : ℕ) (before after : Option ℕ) → Of IsAside (option_to_list (new_owner speaker place before after))
is_owner None place before after = tt
is_owner (Some number) place None None = tt
is_owner (Some number) place None (Some owner) = (tt, tt)
is_owner (Some number) place (Some before) after = tt

-- what is recorded beside drawops
abbrev asides : ℕ → Origin → Datagram → Judged → List RecordLine
asides now o v h = mark_lines now v (verdict_on now o v h).why h.kept ++ owner_lines o v h.judge (judge_after now o v h)

are_asides : (now : ℕ) (o : Origin) (v : Datagram) (h : Judged) → Of IsAside (asides now o v h)
are_asides now o v h =
    let speaker = speaker_in v in
    of_both IsAside (mark_lines now v (verdict_on now o v h).why h.kept) (owner_lines o v h.judge (judge_after now o v h)) (are_marks now v (verdict_on now o v h).why h.kept)
    (is_owner speaker o.place (owner_by speaker h.judge) (owner_by speaker (judge_after now o v h)))

no_drawops : (lines : List RecordLine) → Of IsAside lines → drawops_of lines ≡ []
no_drawops [] each = refl
no_drawops (Tick now ∷ lines) each = absurd each.0
no_drawops (Said d ∷ lines) each = absurd each.0
no_drawops (Known d ∷ lines) each = absurd each.0
no_drawops (Strange d ∷ lines) each = absurd each.0
no_drawops (Mark speaker page mark ∷ lines) each = no_drawops lines each.1
no_drawops (Owner number place owner ∷ lines) each = no_drawops lines each.1

-- ---- the board

abbrev pub held_by : Judged → List DrawopValue
held_by h = h.kept.host.is.held

abbrev pub cells_of : Judged → ℕ
cells_of h = h.kept.host.is.cells

-- what is recorded first is held
abbrev AreHeld : List DrawopValue → List DrawopValue → Type 0
AreHeld h ds = Of (λ (d : DrawopValue). holds h d.name ≡ true) ds

pub first_held : (line : Call) (h : Judged) → AreHeld (held_by h) (drawops_of (first_lines line h))
first_held (CameFrom now o v) h =
    let held = held_by h in
    let ds = named (freed o h.judge.strange.given (judge_after now o v h).strange.given) held in
    let rest = asides now o v h in
    let same : drawops_of (first_lines (CameFrom now o v) h) ≡ ds =
    drawops_both (map Known ds) rest
    ∙ ap (λ (es : List DrawopValue). drawops_of (map Known ds) ++ es) (no_drawops rest (are_asides now o v h))
    ∙ append-nil (drawops_of (map Known ds)) ∙ drawops_known ds in
    subst (AreHeld held) (sym same) (of_filter (λ (d : DrawopValue). holds held d.name ≡ true) _ held (all_held held))
first_held (Passed now news) h = tt
first_held (UserDrew now page op) h = tt
first_held (Held line) h = tt

first_again : (line : Call) (h : Judged) → history_after (cells_of h) (held_by h) (drawops_of (first_lines line h)) ≡ held_by h
first_again line h = taken_again (cells_of h) (held_by h) (drawops_of (first_lines line h)) (first_held line h)

-- if all that is gained is recorded
held_other : (line : Call) (h : Judged) → drawops_of (gain_lines (giver_of line) (judging line h).strange.given (gained (handed line h) h.kept)) ≡ gained (handed line h) h.kept
    → held_by (after_judged line h) ≡ history_after (cells_of h) (held_by h) (drawops_of (noted (moment_of line h) (lines_of line h)))
held_other line h all =
    let cells = cells_of h in
    let held = held_by h in
    let first = first_lines line h in
    let gain = gain_lines (giver_of line) (judging line h).strange.given (gained (handed line h) h.kept) in
    let g = gains_kept (handed line h) h.kept in
    sym (ap (λ (ds : List DrawopValue). history_after cells held ds) (drawops_noted (moment_of line h) (first ++ gain) ∙ drawops_both first gain)
    ∙ after_both cells held (drawops_of first) (drawops_of gain)
    ∙ ap (λ (h : List DrawopValue). history_after cells h (drawops_of gain)) (first_again line h)
    ∙ ap (λ (ds : List DrawopValue). history_after cells held ds) (all ∙ gained_kept (handed line h) h.kept)
    ∙ g.again)

held_noted : (line : Call) (h : Judged) → drawops_of (gain_lines (giver_of line) (judging line h).strange.given (gained (handed line h) h.kept)) ≡ gained (handed line h) h.kept
    → (recorded : List RecordLine) → recorded ≡ noted (moment_of line h) (lines_of line h) → held_by (after_judged line h) ≡ history_after (cells_of h) (held_by h) (drawops_of recorded)
held_noted line h all recorded is = held_other line h all ∙ ap (λ (ls : List RecordLine). history_after (cells_of h) (held_by h) (drawops_of ls)) (sym is)

others_all : (line : Call) (h : Judged) → drawops_of (map (line_of (judging line h).strange.given) (gained (handed line h) h.kept)) ≡ gained (handed line h) h.kept
others_all line h = drawops_given (judging line h).strange.given (gained (handed line h) h.kept)

pub held_line : (line : Call) (h : Judged) → held_by (after_judged line h) ≡ history_after (cells_of h) (held_by h) (drawops_of (record_of line h))
held_line (CameFrom now o v) h = let l = CameFrom now o v in held_noted l h (others_all l h) (record_of l h) (line_recorded l h)
held_line (Passed now news) h = let l = Passed now news in held_noted l h (others_all l h) (record_of l h) (line_recorded l h)
held_line (UserDrew now page op) h = let l = UserDrew now page op in held_noted l h (drawops_said (gained (handed l h) h.kept)) (record_of l h) (line_recorded l h)
held_line (Held line) h =
    held_recalled (present h.kept.host) line h.kept ∙ ap (λ (ds : List DrawopValue). history_after (cells_of h) (held_by h) ds) (sym (append-nil (drawops_in line)))

pub cells_line : (line : Call) (h : Judged) → cells_of (after_judged line h) ≡ cells_of h
cells_line line h = (takes_kept (handed line h) h.kept).cells

pub the_record_is_the_board : TheRecordIsTheBoard
the_record_is_the_board [] h = refl
the_record_is_the_board (line ∷ lines) h =
    let next = after_judged line h in
    let rest = drawops_of (record_by lines next) in
    the_record_is_the_board lines next
    ∙ ap (λ (cells : ℕ). history_after cells (held_by next) rest) (cells_line line h)
    ∙ ap (λ (held : List DrawopValue). history_after (cells_of h) held rest) (held_line line h)
    ∙ sym (after_both (cells_of h) (held_by h) (drawops_of (record_of line h)) rest)
    ∙ ap (λ (ds : List DrawopValue). history_after (cells_of h) (held_by h) ds) (sym (drawops_both (record_of line h) (record_by lines next)))

-- ---- the names of what is strange, by a record

abbrev strange_names : Judged → List NameValue
strange_names h = names_of h.judge.strange.given

abbrev told_by_line : ℕ → ℕ → RecordLine → List DrawopValue → List NameValue → List NameValue
told_by_line most cells (Tick now) held ns = ns
told_by_line most cells (Said d) held ns = less d.name ns
told_by_line most cells (Known d) held ns = less d.name ns
told_by_line most cells (Strange d) held ns = cond (is_new (Some (fate_of (outcome_of cells held d)))) (more most d.name ns) ns
told_by_line most cells (Mark speaker page mark) held ns = ns
told_by_line most cells (Owner number place owner) held ns = ns

abbrev told_by : ℕ → ℕ → List RecordLine → List DrawopValue → List NameValue → List NameValue
told_by most cells [] held ns = ns
told_by most cells (line ∷ lines) held ns = told_by most cells lines (history_after cells held (drawops_in line)) (told_by_line most cells line held ns)

told_both : (most cells : ℕ) (one other : List RecordLine) (held : List DrawopValue) (ns : List NameValue)
    → told_by most cells (one ++ other) held ns ≡ told_by most cells other (history_after cells held (drawops_of one)) (told_by most cells one held ns)
told_both most cells [] other held ns = refl
told_both most cells (line ∷ one) other held ns =
    told_both most cells one other (history_after cells held (drawops_in line)) (told_by_line most cells line held ns)
    ∙ ap (λ (h : List DrawopValue). told_by most cells other h (told_by most cells (line ∷ one) held ns)) (sym (after_both cells held (drawops_in line) (drawops_of one)))

told_noted : (most cells now : ℕ) (lines : List RecordLine) (held : List DrawopValue) (ns : List NameValue) → told_by most cells (noted now lines) held ns ≡ told_by most cells lines held ns
told_noted most cells now [] held ns = refl
told_noted most cells now (line ∷ lines) held ns = refl

told_asides : (most cells : ℕ) (lines : List RecordLine) (held : List DrawopValue) (ns : List NameValue) → Of IsAside lines → told_by most cells lines held ns ≡ ns
told_asides most cells [] held ns each = refl
told_asides most cells (Tick now ∷ lines) held ns each = absurd each.0
told_asides most cells (Said d ∷ lines) held ns each = absurd each.0
told_asides most cells (Known d ∷ lines) held ns each = absurd each.0
told_asides most cells (Strange d ∷ lines) held ns each = absurd each.0
told_asides most cells (Mark speaker page mark ∷ lines) held ns each = told_asides most cells lines held ns each.1
told_asides most cells (Owner number place owner ∷ lines) held ns each = told_asides most cells lines held ns each.1

told_known : (most cells : ℕ) (ds : List DrawopValue) (held : List DrawopValue) (ns : List NameValue) → told_by most cells (map Known ds) held ns ≡ less_all ds ns
told_known most cells [] held ns = refl
told_known most cells (d ∷ ds) held ns = told_known most cells ds (history_after cells held (d ∷ [])) (less d.name ns)

-- none of these is strange
told_said : (most cells : ℕ) (ds : List DrawopValue) (held : List DrawopValue) (ns : List NameValue)
    → Of (λ (d : DrawopValue). Of (λ (m : NameValue). same_name m d.name ≡ false) ns) ds → told_by most cells (map Said ds) held ns ≡ ns
told_said most cells [] held ns none = refl
told_said most cells (d ∷ ds) held ns none =
    ap (λ (ms : List NameValue). told_by most cells (map Said ds) (history_after cells held (d ∷ [])) ms) (less_none d.name ns none.0)
    ∙ told_said most cells ds (history_after cells held (d ∷ [])) ns none.1

-- ---- names that are held, and stand once

pub record Sound (board : List DrawopValue) (ns : List NameValue) : Type 0 where
  pub held : Of (λ (n : NameValue). holds board n ≡ true) ns
  pub once : Once ns

sound_grown : (held : List DrawopValue) (d : DrawopValue) (o : Outcome) (ns : List NameValue) → Sound held ns → Sound (history_with held d o) ns
sound_grown held d o ns s = record {
  held = of_so (λ (n : NameValue). holds held n ≡ true) (λ (n : NameValue). holds (history_with held d o) n ≡ true) ns (λ n is. held_with held d o n is) s.held;
  once = s.once;
}

sound_less : (held : List DrawopValue) (n : NameValue) (ns : List NameValue) → Sound held ns → Sound held (less n ns)
sound_less held n ns s = record {
  held = of_filter (λ (n : NameValue). holds held n ≡ true) _ ns s.held;
  once = once_filter _ ns s.once;
}

sound_more : (most cells : ℕ) (held : List DrawopValue) (d : DrawopValue) (ns : List NameValue) → Sound held ns
    → Sound (history_with held d (outcome_of cells held d)) (cond (is_new (Some (fate_of (outcome_of cells held d)))) (more most d.name ns) ns)
sound_more most cells held d ns s = by (outcome_of cells held d) where
  longer : (b c : Bool) → has d.name ns ≡ b → Sound (held ++ d ∷ []) (cond b ns (cond c (ns ++ d.name ∷ []) ns))
  longer true c e = sound_grown held d (New 0) ns s
  longer false false e = sound_grown held d (New 0) ns s
  longer false true e =
      let t = sound_grown held d (New 0) ns s in
      record {
        held = of_both (λ (n : NameValue). holds (held ++ d ∷ []) n ≡ true) ns (d.name ∷ []) t.held (holds_last held d, tt);
        once = once_last ns d.name s.once (none_has d.name ns e);
      }

  by : (o : Outcome) → Sound (history_with held d o) (cond (is_new (Some (fate_of o))) (more most d.name ns) ns)
  by (New place) = longer (has d.name ns) (nat_lt (length ns) most) refl
  by (Again place) = s
  by (Clash place) = s
  by Left = s

sound_line : (most cells : ℕ) (line : RecordLine) (held : List DrawopValue) (ns : List NameValue) → Sound held ns
    → Sound (history_after cells held (drawops_in line)) (told_by_line most cells line held ns)
sound_line most cells (Tick now) held ns s = s
sound_line most cells (Said d) held ns s = let o = outcome_of cells held d in sound_less (history_with held d o) d.name ns (sound_grown held d o ns s)
sound_line most cells (Known d) held ns s = let o = outcome_of cells held d in sound_less (history_with held d o) d.name ns (sound_grown held d o ns s)
sound_line most cells (Strange d) held ns s = sound_more most cells held d ns s
sound_line most cells (Mark speaker page mark) held ns s = s
sound_line most cells (Owner number place owner) held ns s = s

sound_lines : (most cells : ℕ) (lines : List RecordLine) (held : List DrawopValue) (ns : List NameValue) → Sound held ns
    → Sound (history_after cells held (drawops_of lines)) (told_by most cells lines held ns)
sound_lines most cells [] held ns s = s
sound_lines most cells (line ∷ lines) held ns s =
    subst (λ (h : List DrawopValue). Sound h (told_by most cells (line ∷ lines) held ns)) (sym (after_both cells held (drawops_in line) (drawops_of lines)))
    (sound_lines most cells lines (history_after cells held (drawops_in line)) (told_by_line most cells line held ns) (sound_line most cells line held ns s))

-- ---- the names of a judge

strange_sending : (v : Datagram) (j : Judge) → (after_sending v j).strange ≡ j.strange
strange_sending (Draw d) j = refl
strange_sending (Session sender sent page marks echoes) j = refl
strange_sending (Request asker name) j = refl
strange_sending (AskPages asker) j = refl
strange_sending (PageState sender page marks) j = refl

strange_sends : (sent : List Datagram) (j : Judge) → (after_sends sent j).strange ≡ j.strange
strange_sends [] j = refl
strange_sends (v ∷ sent) j = strange_sends sent (after_sending v j) ∙ strange_sending v j

strange_line : (line : Call) (h : Judged) → (after_judged line h).judge.strange ≡ (judging line h).strange
strange_line line h = strange_sends (sent_by_kept_line (handed line h) h.kept) (judging line h)

-- a datagram leaves it, or what its origin gave is strange no more
strange_judged : (now : ℕ) (o : Origin) (v : Datagram) (h : Judged) → ((judge_after now o v h).strange ≡ h.judge.strange) ⊎ ((judge_after now o v h).strange ≡ without_origin o h.judge.strange)
unfolding judge_after
strange_judged now o v h = by (outcome o v f (after_coming o f.at h.judge)) where
  f : Facts
  f = facts_of now v h.kept

  answered : (b : Bool) → (after_judging o v f h.judge).strange ≡ cond b (without_origin o h.judge.strange) h.judge.strange
      → ((after_judging o v f h.judge).strange ≡ h.judge.strange) ⊎ ((after_judging o v f h.judge).strange ≡ without_origin o h.judge.strange)
  answered true e = inr e
  answered false e = inl e

  by : Same (after_coming o f.at h.judge) (after_judging o v f h.judge) ⊎ Heard o (speaker_in v) (is_answer v f.at (after_coming o f.at h.judge)) f.at (after_coming o f.at h.judge) (after_judging o v f h.judge)
      → ((after_judging o v f h.judge).strange ≡ h.judge.strange) ⊎ ((after_judging o v f h.judge).strange ≡ without_origin o h.judge.strange)
  by (inl s) = inl s.strange
  by (inr d) = answered (is_answer v f.at (after_coming o f.at h.judge)) d.strange

same_if_long : {X : Type 0} (p : X → Bool) (xs : List X) → length xs ≤ length (filter p xs) → filter p xs ≡ xs
same_if_long p [] long = refl
same_if_long {X} p (x ∷ xs) long = by (p x) (filter_length p xs) long (λ le. same_if_long p xs le) where
  by : (b : Bool) → length (filter p xs) ≤ length xs → length (x ∷ xs) ≤ length (cond b (x ∷ filter p xs) (filter p xs)) → (length xs ≤ length (filter p xs) → filter p xs ≡ xs)
      → cond b (x ∷ filter p xs) (filter p xs) ≡ x ∷ xs
  by true few le same = ap (λ (ys : List X). x ∷ ys) (same (omega (arith, le)))
  by false few le same = absurd (omega (arith, few, le))

not_less : (n : ℕ) → nat_lt n n ≡ false
not_less n = grind (arith, nat_tests)

-- what an origin gave and is strange no more, is recorded as a member's
freed_told : (o : Origin) (before after : Shares) (held : List DrawopValue) → (after ≡ before) ⊎ (after ≡ without_origin o before) → Sound held (names_of before.given)
    → names_of after.given ≡ less_all (named (freed o before.given after.given) held) (names_of before.given)
unfolding without_origin
freed_told o before after held (inl same) s =
    ap (λ (t : Shares). names_of t.given) same
    ∙ sym (ap (λ (ns : List NameValue). less_all (named ns held) (names_of before.given)) (ap (λ (t : Shares). freed o before.given t.given) same ∙ none)
    ∙ ap (λ (ds : List DrawopValue). less_all ds (names_of before.given)) (named_none held)) where
      none : freed o before.given before.given ≡ []
      none = ap (λ (b : Bool). cond b (given_by o before.given) []) (not_less (length before.given))
freed_told o before after held (inr taken) s =
    ap (λ (t : Shares). names_of t.given) taken ∙ by (nat_lt (length rest) (length before.given)) refl
    ∙ sym (ap (λ (t : Shares). less_all (named (freed o before.given t.given) held) (names_of before.given)) taken) where
      rest : List Given
      rest = filter (λ (g : Given). not (is_given_by o g)) before.given

      by : (b : Bool) → nat_lt (length rest) (length before.given) ≡ b → names_of rest ≡ less_all (named (cond (nat_lt (length rest) (length before.given)) (given_by o before.given) []) held) (names_of before.given)
      by true e =
          freed_names o held before.given s.held s.once
          ∙ ap (λ (b : Bool). less_all (named (cond b (given_by o before.given) []) held) (names_of before.given)) (sym e)
      by false e =
          ap (λ (gs : List Given). names_of gs) (same_if_long (λ (g : Given). not (is_given_by o g)) before.given (ltb-false (length rest) (length before.given) e))
          ∙ ap (λ (ds : List DrawopValue). less_all ds (names_of before.given)) (sym (named_none held))
          ∙ ap (λ (b : Bool). less_all (named (cond b (given_by o before.given) []) held) (names_of before.given)) (sym e)

-- ---- a line that is not of the record

abbrev SoundAt : Judged → Type 0
SoundAt h = Sound (held_by h) (strange_names h)

abbrev most_of : Judged → ℕ
most_of h = h.judge.strange.most

first_told : (now : ℕ) (o : Origin) (v : Datagram) (h : Judged) → SoundAt h
    → told_by (most_of h) (cells_of h) (first_lines (CameFrom now o v) h) (held_by h) (strange_names h) ≡ names_of (judge_after now o v h).strange.given
first_told now o v h s =
    let most = most_of h in
    let cells = cells_of h in
    let held = held_by h in
    let ds = named (freed o h.judge.strange.given (judge_after now o v h).strange.given) held in
    let rest = asides now o v h in
    told_both most cells (map Known ds) rest held (strange_names h)
    ∙ told_asides most cells rest (history_after cells held (drawops_of (map Known ds))) (told_by most cells (map Known ds) held (strange_names h)) (are_asides now o v h)
    ∙ told_known most cells ds held (strange_names h)
    ∙ sym (freed_told o h.judge.strange (judge_after now o v h).strange held (strange_judged now o v h) s)

-- its first lines, and then those of what is gained
told_line : (line : Call) (h : Judged) (ns : List NameValue) → told_by (most_of h) (cells_of h) (first_lines line h) (held_by h) (strange_names h) ≡ ns
    → told_by (most_of h) (cells_of h) (gain_lines (giver_of line) (judging line h).strange.given (gained (handed line h) h.kept)) (held_by h) ns ≡ names_of (judging line h).strange.given
    → (recorded : List RecordLine) → recorded ≡ noted (moment_of line h) (lines_of line h)
    → told_by (most_of h) (cells_of h) recorded (held_by h) (strange_names h) ≡ strange_names (after_judged line h)
told_line line h ns begins goes recorded is =
    let most = most_of h in
    let cells = cells_of h in
    let held = held_by h in
    let first = first_lines line h in
    let gain = gain_lines (giver_of line) (judging line h).strange.given (gained (handed line h) h.kept) in
    ap (λ (ls : List RecordLine). told_by most cells ls held (strange_names h)) is
    ∙ told_noted most cells (moment_of line h) (first ++ gain) held (strange_names h)
    ∙ told_both most cells first gain held (strange_names h)
    ∙ ap (λ (hs : List DrawopValue). told_by most cells gain hs (told_by most cells first held (strange_names h))) (first_again line h)
    ∙ ap (λ (ms : List NameValue). told_by most cells gain held ms) begins
    ∙ goes
    ∙ ap (λ (t : Shares). names_of t.given) (sym (strange_line line h))

nothing_gained : (most cells : ℕ) (given : List Given) (gained : List DrawopValue) (held : List DrawopValue) (ns : List NameValue) → gained ≡ []
    → told_by most cells (map (line_of given) gained) held ns ≡ ns
nothing_gained most cells given gained held ns none = ap (λ (ds : List DrawopValue). told_by most cells (map (line_of given) ds) held ns) none

-- time goes on, and nothing of what is strange changes
tick_told : (line : Call) (h : Judged) (now : ℕ) → giver_of line ≡ Others → first_lines line h ≡ [] → handed line h ≡ Ticked now → (judging line h).strange ≡ h.judge.strange
    → (recorded : List RecordLine) → recorded ≡ noted (moment_of line h) (lines_of line h)
    → told_by (most_of h) (cells_of h) recorded (held_by h) (strange_names h) ≡ strange_names (after_judged line h)
tick_told line h now others none ticked same recorded is =
    told_line line h (strange_names h) (ap (λ (ls : List RecordLine). told_by (most_of h) (cells_of h) ls (held_by h) (strange_names h)) none)
    (ap (λ (g : Giver). told_by (most_of h) (cells_of h) (gain_lines g (judging line h).strange.given (gained (handed line h) h.kept)) (held_by h) (strange_names h)) others
    ∙ nothing_gained (most_of h) (cells_of h) (judging line h).strange.given (gained (handed line h) h.kept) (held_by h) (strange_names h)
    (ap (λ (l : KeptLine). gained l h.kept) ticked ∙ gained_ticked now h.kept)
    ∙ ap (λ (t : Shares). names_of t.given) (sym same)) recorded is

-- ---- a drawop that came

-- with one more, or as many as there may be
more_is : (most : ℕ) (n : NameValue) (ns : List NameValue) → has n ns ≡ false → has n (more most n ns) ≡ false → more most n ns ≡ ns
more_is most n ns absent still = by (has n ns) (nat_lt (length ns) most) absent still where
  last : (ns : List NameValue) → has n (ns ++ n ∷ []) ≡ true
  last [] = ap (λ (b : Bool). b || false) (same_name-itself n)
  last (m ∷ ns) = or_right (same_name m n) (has n (ns ++ n ∷ [])) (last ns)

  by : (b c : Bool) → b ≡ false → has n (cond b ns (cond c (ns ++ n ∷ []) ns)) ≡ false → cond b ns (cond c (ns ++ n ∷ []) ns) ≡ ns
  by true c e f = refl
  by false true e f = absurd (true≢false (sym (last ns) ∙ f))
  by false false e f = refl

pub all_dropped : (h : List DrawopValue) → drop (length h) h ≡ []
all_dropped h = ap (λ (ds : List DrawopValue). drop (length h) ds) (sym (append-nil h)) ∙ drop_at h [] (length h) refl

module _ (now : ℕ) (o : Origin) (d : DrawopValue) (k : Keeping) (j : Judge) where
  abbrev cells : ℕ
  cells = k.host.is.cells

  abbrev held : List DrawopValue
  held = k.host.is.held

  abbrev outcome_here : Outcome
  outcome_here = outcome_of cells held d

  abbrev given : Given
  given = record { name = d.name; origin = Some o }

  abbrev ns : List NameValue
  ns = names_of j.strange.given

  -- of whom it came is known, or not
  taken_told : (e : is_new (Some (fate_of outcome_here)) ≡ true) → has d.name ns ≡ false → (after : Judge) → (names_of after.strange.given ≡ ns) ⊎ (names_of after.strange.given ≡ more j.strange.most d.name ns)
      → told_by_line j.strange.most cells (line_of after.strange.given d) held ns ≡ names_of after.strange.given
  taken_told e absent after which = by (has_name d.name after.strange.given) refl which where
    less_here : less d.name ns ≡ ns
    less_here = less_none d.name ns (none_has d.name ns absent)

    by : (b : Bool) → has_name d.name after.strange.given ≡ b → (names_of after.strange.given ≡ ns) ⊎ (names_of after.strange.given ≡ more j.strange.most d.name ns)
        → told_by_line j.strange.most cells (cond b (Strange d) (Known d)) held ns ≡ names_of after.strange.given
    by true is (inl same) = absurd (true≢false (sym is ∙ has_is d.name after.strange.given ∙ ap (λ (ms : List NameValue). has d.name ms) same ∙ absent))
    by true is (inr longer) = ap (λ (b : Bool). cond b (more j.strange.most d.name ns) ns) e ∙ sym longer
    by false is (inl same) = less_here ∙ sym same
    by false is (inr longer) =
        less_here ∙ sym (more_is j.strange.most d.name ns absent (ap (λ (ms : List NameValue). has d.name ms) (sym longer) ∙ sym (has_is d.name after.strange.given) ∙ is)) ∙ sym longer

  taking : (b : Bool) → (names_of (cond b j (record j { strange = with_given given j.strange })).strange.given ≡ ns)
      ⊎ (names_of (cond b j (record j { strange = with_given given j.strange })).strange.given ≡ more j.strange.most d.name ns)
  taking true = inl refl
  taking false = inr (names_more given j.strange)

  -- by what became of it
  became_told : (out : Outcome) → outcome_here ≡ out → (gained : List DrawopValue) → gained ≡ drop (length held) (history_with held d out) → Of (λ (m : NameValue). holds held m ≡ true) ns
      → let after = cond (is_new (Some (fate_of out))) (after_taking given o now j) j in
      told_by j.strange.most cells (map (line_of after.strange.given) gained) held ns ≡ names_of after.strange.given
  became_told (New place) e gained is sound =
      let after = after_taking given o now j in
      let absent = not_held_has held d.name ns (fresh_is_new cells held d place e) sound in
      ap (λ (ds : List DrawopValue). told_by j.strange.most cells (map (line_of after.strange.given) ds) held ns) (is ∙ drop_at held (d ∷ []) (length held) refl)
      ∙ taken_told (ap (λ (out : Outcome). is_new (Some (fate_of out))) e) absent after (taking (knows o now j))
  became_told (Again place) e gained is sound = nothing_gained j.strange.most cells j.strange.given gained held ns (is ∙ all_dropped held)
  became_told (Clash place) e gained is sound = nothing_gained j.strange.most cells j.strange.given gained held ns (is ∙ all_dropped held)
  became_told Left e gained is sound = nothing_gained j.strange.most cells j.strange.given gained held ns (is ∙ all_dropped held)

  drawn_told : (why : Option Why) → Of (λ (m : NameValue). holds held m ≡ true) ns
      → let line = handed_for now (Draw d) why in
      let after = after_fate now o (Draw d) (fate_by line k) j in
      told_by j.strange.most cells (map (line_of after.strange.given) (gained line k)) held ns ≡ names_of after.strange.given
  drawn_told None sound =
      became_told outcome_here refl (gained (Came now (Draw d)) k) (ap (λ (ds : List DrawopValue). drop (length held) ds) (held_drawn now d k)) sound
  drawn_told (Some why) sound = nothing_gained j.strange.most cells j.strange.given (gained (Ticked now) k) held ns (gained_ticked now k)

-- ---- any line

other_told : (now : ℕ) (o : Origin) (v : Datagram) (why : Option Why) (k : Keeping) (j : Judge) (most cells : ℕ) (held : List DrawopValue) (ns : List NameValue) → IsOther v
    → told_by most cells (map (line_of j.strange.given) (gained (handed_for now v why) k)) held ns ≡ ns
other_told now o v None k j most cells held ns other = nothing_gained most cells j.strange.given (gained (Came now v) k) held ns (gained_heard now v k other)
other_told now o v (Some why) k j most cells held ns other = nothing_gained most cells j.strange.given (gained (Ticked now) k) held ns (gained_ticked now k)

gain_told : (now : ℕ) (o : Origin) (v : Datagram) (h : Judged) → SoundAt h
    → told_by (most_of h) (cells_of h) (map (line_of (judging (CameFrom now o v) h).strange.given) (gained (handed (CameFrom now o v) h) h.kept)) (held_by h) (names_of (judge_after now o v h).strange.given)
    ≡ names_of (judging (CameFrom now o v) h).strange.given
unfolding judge_after
gain_told now o (Draw d) h s = drawn_told now o d h.kept (judge_after now o (Draw d) h) (verdict_on now o (Draw d) h).why s.held
gain_told now o (Session sender sent page marks echoes) h s =
    other_told now o (Session sender sent page marks echoes) (verdict_on now o (Session sender sent page marks echoes) h).why h.kept (judge_after now o (Session sender sent page marks echoes) h) (most_of h) (cells_of h) (held_by h) _ (λ d e. absurd cc)
gain_told now o (Request asker name) h s =
    other_told now o (Request asker name) (verdict_on now o (Request asker name) h).why h.kept (judge_after now o (Request asker name) h) (most_of h) (cells_of h) (held_by h) _ (λ d e. absurd cc)
gain_told now o (AskPages asker) h s =
    other_told now o (AskPages asker) (verdict_on now o (AskPages asker) h).why h.kept (judge_after now o (AskPages asker) h) (most_of h) (cells_of h) (held_by h) _ (λ d e. absurd cc)
gain_told now o (PageState sender page marks) h s =
    other_told now o (PageState sender page marks) (verdict_on now o (PageState sender page marks) h).why h.kept (judge_after now o (PageState sender page marks) h) (most_of h) (cells_of h) (held_by h) _ (λ d e. absurd cc)

recalled_told : (line : RecordLine) (h : Judged) → told_by_line (most_of h) (cells_of h) line (held_by h) (strange_names h) ≡ names_of (judging (Held line) h).strange.given
unfolding without_name
recalled_told (Tick past) h = refl
recalled_told (Said d) h = sym (names_less d.name h.judge.strange.given)
recalled_told (Known d) h = sym (names_less d.name h.judge.strange.given)
recalled_told (Strange d) h = by (is_new (Some (fate_of (outcome_of (cells_of h) (held_by h) d)))) where
  by : (b : Bool) → cond b (more (most_of h) d.name (strange_names h)) (strange_names h) ≡ names_of (cond b (with_strange d.name h.judge) h.judge).strange.given
  by true = sym (names_more (record { name = d.name; origin = None }) h.judge.strange)
  by false = refl
recalled_told (Mark speaker page mark) h = refl
recalled_told (Owner number place owner) h = refl

new_names : (held : List DrawopValue) (ns : List NameValue) (ds : List DrawopValue) → Of (λ (n : NameValue). holds held n ≡ true) ns → Of (λ (d : DrawopValue). holds held d.name ≡ false) ds
    → Of (λ (d : DrawopValue). Of (λ (m : NameValue). same_name m d.name ≡ false) ns) ds
new_names held ns ds sound new = of_so (λ (d : DrawopValue). holds held d.name ≡ false) (λ (d : DrawopValue). Of (λ (m : NameValue). same_name m d.name ≡ false) ns) ds (λ d absent. not_held_none held d.name ns absent sound) new

names_line : (line : Call) (h : Judged) → SoundAt h → told_by (most_of h) (cells_of h) (record_of line h) (held_by h) (strange_names h) ≡ strange_names (after_judged line h)
names_line (CameFrom now o v) h s =
    let l = CameFrom now o v in
    told_line l h (names_of (judge_after now o v h).strange.given) (first_told now o v h s) (gain_told now o v h s) (record_of l h) (line_recorded l h)
names_line (Passed now news) h s = let l = Passed now news in tick_told l h now refl refl refl (news_keeps now news h.judge).strange (record_of l h) (line_recorded l h)
names_line (UserDrew now page op) h s =
    let l = UserDrew now page op in
    let g = gains_kept (handed l h) h.kept in
    let ds = gained (handed l h) h.kept in
    told_line l h (strange_names h) refl
    (ap (λ (ds : List DrawopValue). told_by (most_of h) (cells_of h) (map Said ds) (held_by h) (strange_names h)) (gained_kept (handed l h) h.kept)
    ∙ told_said (most_of h) (cells_of h) g.more (held_by h) (strange_names h) (new_names (held_by h) (strange_names h) g.more s.held g.new)) (record_of l h) (line_recorded l h)
names_line (Held line) h s = recalled_told line h ∙ ap (λ (t : Shares). names_of t.given) (sym (strange_line (Held line) h))

-- ---- how much of strangers is taken

most_given : (g : Given) (s : Shares) → (with_given g s).most ≡ s.most
unfolding with_given
most_given g s = by (has_name g.name s.given) where
  by : (b : Bool) → (cond b s (record s { given = with_one s.most g s.given })).most ≡ s.most
  by true = refl
  by false = refl

most_if : (b : Bool) (one j : Judge) → one.strange.most ≡ j.strange.most → (cond b one j).strange.most ≡ j.strange.most
most_if true one j e = e
most_if false one j e = refl

most_else : (b : Bool) (one j : Judge) → one.strange.most ≡ j.strange.most → (cond b j one).strange.most ≡ j.strange.most
most_else true one j e = refl
most_else false one j e = e

most_taking : (g : Given) (o : Origin) (now : ℕ) (j : Judge) → (after_taking g o now j).strange.most ≡ j.strange.most
most_taking g o now j = most_else (knows o now j) (record j { strange = with_given g j.strange }) j (most_given g j.strange)

most_fate : (now : ℕ) (o : Origin) (v : Datagram) (fate : Option Fate) (j : Judge) → (after_fate now o v fate j).strange.most ≡ j.strange.most
most_fate now o (Draw d) fate j = most_if (is_new fate) (after_taking (record { name = d.name; origin = Some o }) o now j) j (most_taking (record { name = d.name; origin = Some o }) o now j)
most_fate now o (Session sender sent page marks echoes) fate j = refl
most_fate now o (Request asker name) fate j = refl
most_fate now o (AskPages asker) fate j = refl
most_fate now o (PageState sender page marks) fate j = refl

most_judged : (now : ℕ) (o : Origin) (v : Datagram) (h : Judged) → (judge_after now o v h).strange.most ≡ most_of h
unfolding without_origin
most_judged now o v h = by (strange_judged now o v h) where
  by : ((judge_after now o v h).strange ≡ h.judge.strange) ⊎ ((judge_after now o v h).strange ≡ without_origin o h.judge.strange) → (judge_after now o v h).strange.most ≡ most_of h
  by (inl e) = ap (λ (s : Shares). s.most) e
  by (inr e) = ap (λ (s : Shares). s.most) e

most_recalled : (line : RecordLine) (fate : Option Fate) (j : Judge) → (after_recalling line fate j).strange.most ≡ j.strange.most
unfolding without_name
most_recalled (Tick past) fate j = refl
most_recalled (Said d) fate j = refl
most_recalled (Known d) fate j = refl
most_recalled (Strange d) fate j = most_if (is_new fate) (with_strange d.name j) j (most_given (record { name = d.name; origin = None }) j.strange)
most_recalled (Mark speaker page mark) fate j = refl
most_recalled (Owner number place owner) fate j = refl

most_judging : (line : Call) (h : Judged) → (judging line h).strange.most ≡ most_of h
most_judging (CameFrom now o v) h = most_fate now o v (fate_by (handed (CameFrom now o v) h) h.kept) (judge_after now o v h) ∙ most_judged now o v h
most_judging (Passed now news) h = ap (λ (s : Shares). s.most) (news_keeps now news h.judge).strange
most_judging (UserDrew now page op) h = refl
most_judging (Held line) h = most_recalled line (fate_by (handed (Held line) h) h.kept) h.judge

most_line : (line : Call) (h : Judged) → most_of (after_judged line h) ≡ most_of h
most_line line h = ap (λ (s : Shares). s.most) (strange_line line h) ∙ most_judging line h

-- ---- many lines

pub cells_all : (lines : List Call) (h : Judged) → cells_of (after_all lines h) ≡ cells_of h
cells_all [] h = refl
cells_all (line ∷ lines) h = cells_all lines (after_judged line h) ∙ cells_line line h

most_all : (lines : List Call) (h : Judged) → most_of (after_all lines h) ≡ most_of h
most_all [] h = refl
most_all (line ∷ lines) h = most_all lines (after_judged line h) ∙ most_line line h

sound_after : (line : Call) (h : Judged) → SoundAt h → SoundAt (after_judged line h)
sound_after line h s =
    let t = sound_lines (most_of h) (cells_of h) (record_of line h) (held_by h) (strange_names h) s in
    subst (λ (held : List DrawopValue). Sound held (strange_names (after_judged line h))) (sym (held_line line h))
    (subst (λ (ns : List NameValue). Sound (history_after (cells_of h) (held_by h) (drawops_of (record_of line h))) ns) (names_line line h s) t)

names_all : (lines : List Call) (h : Judged) → SoundAt h → strange_names (after_all lines h) ≡ told_by (most_of h) (cells_of h) (record_by lines h) (held_by h) (strange_names h)
names_all [] h s = refl
names_all (line ∷ lines) h s =
    let next = after_judged line h in
    let one = record_of line h in
    let rest = record_by lines next in
    names_all lines next (sound_after line h s)
    ∙ ap (λ (most : ℕ). told_by most (cells_of next) rest (held_by next) (strange_names next)) (most_line line h)
    ∙ ap (λ (cells : ℕ). told_by (most_of h) cells rest (held_by next) (strange_names next)) (cells_line line h)
    ∙ ap (λ (held : List DrawopValue). told_by (most_of h) (cells_of h) rest held (strange_names next)) (held_line line h)
    ∙ ap (λ (ns : List NameValue). told_by (most_of h) (cells_of h) rest (history_after (cells_of h) (held_by h) (drawops_of one)) ns) (sym (names_line line h s))
    ∙ sym (told_both (most_of h) (cells_of h) one rest (held_by h) (strange_names h))

-- the record of what is handed in from one is that one
pub handed_record : (recorded : List RecordLine) (h : Judged) → record_by (map Held recorded) h ≡ recorded
handed_record [] h = refl
handed_record (line ∷ recorded) h = ap (λ (ls : List RecordLine). line ∷ ls) (handed_record recorded (after_judged (Held line) h))

pub it_begins_again : ItBeginsAgain
it_begins_again lines h anew sound alike =
    let recorded = record_by lines h in
    let again = map Held recorded in
    let here : SoundAt h = record { held = each_given (λ (n : NameValue). holds (held_by h) n ≡ true) h.judge.strange.given sound.held; once = once_given h.judge.strange.given sound.once } in
    let there : SoundAt anew =
    subst (λ (held : List DrawopValue). Sound held (strange_names anew)) alike.held (subst (λ (ns : List NameValue). Sound (held_by h) ns) alike.strange here) in
    record {
      cells = cells_all lines h ∙ alike.cells ∙ sym (cells_all again anew);
      held = the_record_is_the_board lines h
          ∙ ap (λ (cells : ℕ). history_after cells (held_by h) (drawops_of recorded)) alike.cells
          ∙ ap (λ (held : List DrawopValue). history_after (cells_of anew) held (drawops_of recorded)) alike.held
          ∙ sym (the_record_is_the_board again anew ∙ ap (λ (ls : List RecordLine). history_after (cells_of anew) (held_by anew) (drawops_of ls)) (handed_record recorded anew));
      most = most_all lines h ∙ alike.most ∙ sym (most_all again anew);
      strange = names_all lines h here
          ∙ ap (λ (most : ℕ). told_by most (cells_of h) recorded (held_by h) (strange_names h)) alike.most
          ∙ ap (λ (cells : ℕ). told_by (most_of anew) cells recorded (held_by h) (strange_names h)) alike.cells
          ∙ ap (λ (held : List DrawopValue). told_by (most_of anew) (cells_of anew) recorded held (strange_names h)) alike.held
          ∙ ap (λ (ns : List NameValue). told_by (most_of anew) (cells_of anew) recorded (held_by anew) ns) alike.strange
          ∙ sym (names_all again anew there ∙ ap (λ (ls : List RecordLine). told_by (most_of anew) (cells_of anew) ls (held_by anew) (strange_names anew)) (handed_record recorded anew));
    }
