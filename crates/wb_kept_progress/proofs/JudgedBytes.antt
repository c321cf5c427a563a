-- How many bytes a judged member sends: it sends what its kept member sends, and one echo more in a report.
use Rattle.std.proofs.Common.{◌≡◌, ℕ, ◌+◌, ◌*◌, ◌-◌, ◌≤◌, Bool, true, false, cond, List, [], ◌∷◌, ◌∙◌, Option, Some, None, arith, length, length-append, map, refl, subst, sym, true≢false}
use Rattle.std.specs.Prelude.{filter, nat_lt}
use Rattle.std.proofs.lemmas.Bool.Decides.{nat_tests}
use Rattle.wb_names.specs.declared.echo.Echo.{Echo}
use Rattle.wb_codec.specs.declared.datagram.Datagram.{Datagram}
use Rattle.wb_codec.specs.declared.datagram.Datagram.TheVariants.{AskPages, Draw, PageState, Request, Session}
use Rattle.wb_member.specs.Opened.{present}
use Rattle.wb_keeping.specs.Laws.{after_kept, sent_by_kept}
use Rattle.wb_keeping.specs.Performing.{Keeping}
use Rattle.wb_judging.specs.Echoing.{echoing, placed, with_echo}
use Rattle.wb_judging.specs.Judged.{Judged}
use Rattle.wb_judging.specs.Laws.{expanded, sends_in}
use Rattle.wb_judging.specs.Performing.{after_judged, after_kept_line, events_of, sent_by_kept_line}
use Rattle.wb_judging.specs.declared.call.Call.{Call}
use Rattle.wb_judging.proofs.AsKept.{judged_members_are_kept, sends_as_kept}
use Rattle.wb_kept_progress.specs.Bytes.{AreFewBytes}
use Rattle.wb_kept_progress.specs.Judged.{JudgedDrawopsAreShort, JudgedMembersSendFewBytes, sent_by_judged}
use Rattle.wb_kept_progress.specs.Traffic.{IsLittle, is_page_question, is_page_state, is_session}
use Rattle.wb_kept_progress.proofs.FewBytes.{IsShort, IsShortDrawop, bytes_are_few, drawops_few_bytes, drawops_sent, sent_short}
use Rattle.wb_kept_progress.proofs.JudgedTraffic.{sent_as_kept, sent_then}
use Rattle.wb_kept_progress.proofs.Lengths.{Every, every_both, every_parts}
use Rattle.wb_kept_progress.proofs.SentKinds.{little_is_sent}

-- ---- one echo more

apart : (p q : Echo → Bool) → ((f : Echo) → p f ≡ true → q f ≡ false) → (echoes : List Echo) → length (filter p echoes) + length (filter q echoes) ≤ length echoes
apart p q other [] = omega arith
apart p q other (f ∷ echoes) = by (p f) (q f) refl refl (apart p q other echoes) where
  by : (a b : Bool) → p f ≡ a → q f ≡ b → length (filter p echoes) + length (filter q echoes) ≤ length echoes
      → length (cond a (f ∷ filter p echoes) (filter p echoes)) + length (cond b (f ∷ filter q echoes) (filter q echoes)) ≤ length (f ∷ echoes)
  by true true e g rest = absurd (true≢false (sym g ∙ other f e))
  by true false e g rest = omega (arith, rest)
  by false true e g rest = omega (arith, rest)
  by false false e g rest = omega (arith, rest)

one_more : (echo : Option Echo) (echoes : List Echo) → length (with_echo echo echoes) ≤ length echoes + 1
one_more None echoes = omega arith
one_more (Some e) echoes = by (nat_lt (length echoes) 65535) where
  below : Echo → Bool
  below f = nat_lt f.source e.source

  above : Echo → Bool
  above f = nat_lt e.source f.source

  not_both : (a b : ℕ) → nat_lt a b ≡ true → nat_lt b a ≡ false
  not_both a b lt = grind (arith, nat_tests)

  by : (b : Bool) → length (cond b (placed e echoes) echoes) ≤ length echoes + 1
  by true =
      let both = length-append (filter below echoes) (e ∷ filter above echoes) in
      let few = apart below above (λ f lt. not_both f.source e.source lt) echoes in
      omega (arith, both, few)
  by false = omega arith

-- ---- what is sent

-- What is so of all that its kept member sends is so of all that it sends, with that echo.
module _ (P Q : Datagram → Type 0) (echoed : (echo : Option Echo) (v : Datagram) → P v → Q (echoing echo v)) where
  each_echoed : (echo : Option Echo) (sent : List Datagram) → Every P sent → Every Q (map (echoing echo) sent)
  each_echoed echo [] are = tt
  each_echoed echo (v ∷ sent) are = (echoed echo v are.0, each_echoed echo sent are.1)

  judged_sends : (lines : List Call) (h : Judged) → Every P (sent_by_kept (expanded lines h) h.kept) → Every Q (sent_by_judged lines h)
  unfolding after_kept_line sent_by_kept_line
  judged_sends [] h are = tt
  judged_sends (line ∷ lines) h are =
      let next = after_judged line h in
      let parts = every_parts P (sent_then line h) (sent_by_kept (expanded lines next) next.kept) are in
      every_both Q (sends_in (events_of line h)) (sent_by_judged lines next)
      (subst (Every Q) (sym (sends_as_kept line h)) (each_echoed _ (sent_then line h) parts.0)) (judged_sends lines next parts.1)

echoed_short : (echo : Option Echo) (v : Datagram) → IsShort 1184 v → IsShort 1204 (echoing echo v)
echoed_short echo (Draw d) short = tt
echoed_short echo (Session sender at page marks echoes) short = let more = one_more echo echoes in omega (arith, more, short)
echoed_short echo (Request asker name) short = tt
echoed_short echo (AskPages asker) short = tt
echoed_short echo (PageState sender page marks) short = short

echoed_drawop : (echo : Option Echo) (v : Datagram) → IsShortDrawop v → IsShortDrawop (echoing echo v)
echoed_drawop echo (Draw d) short = short
echoed_drawop echo (Session sender at page marks echoes) short = tt
echoed_drawop echo (Request asker name) short = tt
echoed_drawop echo (AskPages asker) short = tt
echoed_drawop echo (PageState sender page marks) short = tt

same_reports : (echo : Option Echo) (v : Datagram) → is_session (echoing echo v) ≡ is_session v
same_reports echo (Draw d) = refl
same_reports echo (Session sender sent page marks echoes) = refl
same_reports echo (Request asker name) = refl
same_reports echo (AskPages asker) = refl
same_reports echo (PageState sender page marks) = refl

same_states : (echo : Option Echo) (v : Datagram) → is_page_state (echoing echo v) ≡ is_page_state v
same_states echo (Draw d) = refl
same_states echo (Session sender sent page marks echoes) = refl
same_states echo (Request asker name) = refl
same_states echo (AskPages asker) = refl
same_states echo (PageState sender page marks) = refl

same_questions : (echo : Option Echo) (v : Datagram) → is_page_question (echoing echo v) ≡ is_page_question v
same_questions echo (Draw d) = refl
same_questions echo (Session sender sent page marks echoes) = refl
same_questions echo (Request asker name) = refl
same_questions echo (AskPages asker) = refl
same_questions echo (PageState sender page marks) = refl

pub judged_members_send_few_bytes : JudgedMembersSendFewBytes
judged_members_send_few_bytes lines h wait taken =
    let kept = expanded lines h in
    let few = little_is_sent kept h.kept wait taken in
    let same = (judged_members_are_kept lines h).0 in
    let micros = present (after_kept kept h.kept).host - present h.kept.host in
    let judged : IsLittle (sent_by_judged lines h) micros = record {
      reports = subst (λ (n : ℕ). n * 1000000 ≤ 1000000 + micros) (sym (sent_as_kept is_session same_reports lines h)) few.reports;
      states = subst (λ (n : ℕ). n * 1000000 ≤ 64 * (1000000 + micros)) (sym (sent_as_kept is_page_state same_states lines h)) few.states;
      questions = subst (λ (n : ℕ). n * 500000 ≤ 500000 + micros) (sym (sent_as_kept is_page_question same_questions lines h)) few.questions;
    } in
    let short = judged_sends (IsShort 1184) (IsShort 1204) echoed_short lines h (sent_short kept h.kept taken) in
    subst (λ (k : Keeping). AreFewBytes 1204 (sent_by_judged lines h) (present k.host - present h.kept.host)) (sym same) (bytes_are_few 1204 (sent_by_judged lines h) micros short judged)

pub judged_drawops_are_short : JudgedDrawopsAreShort
judged_drawops_are_short lines h held short taken =
    drawops_few_bytes (sent_by_judged lines h) (judged_sends IsShortDrawop IsShortDrawop echoed_drawop lines h (drawops_sent (expanded lines h) h.kept held short taken).0)
