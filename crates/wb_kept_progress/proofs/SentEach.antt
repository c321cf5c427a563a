-- What is so of all that a host holds, and of all that its lines tell, is so of all that it sends.
use Rattle.std.proofs.Common.{◌≡◌, ℕ, Bool, true, false, cond, List, [], ◌∷◌, Option, Some, None, subst, sym, ⊎_elim}
use Rattle.std.specs.Prelude.{◌⊎◌, Contains, IfSome}
use Rattle.std.specs.List.{cons_option, filter_map}
use Rattle.std.specs.Option.{option_map}
use Rattle.wb_names.specs.Arrivals.{Outcome, New, Again, Clash, Left}
use Rattle.wb_names.specs.Orders.{same_name}
use Rattle.wb_names.specs.Values.{DrawopValue, NameValue}
use Rattle.wb_names.proofs.Listings.{Contains-here, Contains-there}
use Rattle.wb_codec.specs.declared.datagram.Datagram.{Datagram}
use Rattle.wb_codec.specs.declared.datagram.Datagram.TheVariants.{AskPages, Draw, Request}
use Rattle.wb_recovery.specs.declared.plan.Action.{Action}
use Rattle.wb_recovery.specs.declared.plan.Action.TheVariants.{Answer, Ask}
use Rattle.wb_keeper.specs.Ticks.{drawop_of, sent_for}
use Rattle.wb_member.specs.Opened.{Opened, becomes, has_room_for}
use Rattle.wb_member.specs.declared.calls.Call.TheVariants as calls
use Rattle.wb_member.proofs.PolicyCalls.{nothing_sent}
use Rattle.wb_keeping.specs.Kept.{Arrives, Calls, Line, Says}
use Rattle.wb_keeping.specs.Laws.{KeptLine, after_kept, expand, sent_by_kept}
use Rattle.wb_keeping.specs.Performing.{Keeping, after_line, after_lines, said_where, sent_by_line, sent_by_lines}
use Rattle.wb_keeping.proofs.EachLine.{Each}
use Rattle.wb_keeping.proofs.KeptHosts.{kept_hosts_are_hosts}
use Rattle.wb_kept_progress.proofs.Bringing.{line_brings}
use Rattle.wb_kept_progress.proofs.Lengths.{Every, every_both}
use Rattle.wb_kept_progress.proofs.SentKinds.{AnswerNot, AnswersNot, kept_answer_not}

module _ (P : Datagram → Type 0) where
  -- it is so of a drawop that comes by a line, and of what a line says
  abbrev pub Tells : Line → Type 0
  Tells (Arrives d) = P (Draw d)
  Tells (Says v) = P v
  Tells line = Unit {0}

  -- and of all that is held
  abbrev pub IsHeld : List DrawopValue → Type 0
  IsHeld held = (d : DrawopValue) → Contains held d → P (Draw d)

  found_is : (held : List DrawopValue) (name : NameValue) → IsHeld held → IfSome (drawop_of held name) (λ d. P (Draw d))
  found_is [] name is = tt
  found_is (x ∷ held) name is = by (same_name x.name name) (found_is held name (λ d c. is d (Contains-there x d held c))) where
    by : (b : Bool) → IfSome (drawop_of held name) (λ d. P (Draw d)) → IfSome (cond b (Some x) (drawop_of held name)) (λ d. P (Draw d))
    by true rest = is x (Contains-here x held)
    by false rest = rest

  stays_held : (line : Line) (host : Opened) → Tells line → IsHeld host.is.held → IsHeld (after_line line host).is.held
  stays_held line host tells is d c = ⊎_elim
      (λ (was : Contains host.is.held d). is d was)
      (λ (comes : (line ≡ Arrives d) ⊎ (line ≡ Says (Draw d))). ⊎_elim
      (λ (arrives : line ≡ Arrives d). subst Tells arrives tells)
      (λ (says : line ≡ Says (Draw d)). subst Tells says tells)
      comes)
      (line_brings line host d c)

  module _ (requests : (asker : ℕ) (name : NameValue) → P (Request asker name)) where
    tick_sends : (me : ℕ) (held : List DrawopValue) → IsHeld held → (actions : List Action) → Every P (filter_map (sent_for me held) actions)
    tick_sends me held is [] = tt
    tick_sends me held is (Ask name ∷ actions) = (requests me name, tick_sends me held is actions)
    tick_sends me held is (Answer name ∷ actions) = by (drawop_of held name) (found_is held name is) (tick_sends me held is actions) where
      by : (o : Option DrawopValue) → IfSome o (λ d. P (Draw d)) → Every P (filter_map (sent_for me held) actions) → Every P (cons_option (option_map {T = DrawopValue} {U = Datagram} Draw o) (filter_map (sent_for me held) actions))
      by None it rest = rest
      by (Some d) it rest = (it, rest)

    said_is : (d : DrawopValue) (o : Outcome) → P (Draw d) → Every P (said_where d o)
    said_is d (New place) is = (is, tt)
    said_is d (Again place) is = (is, tt)
    said_is d (Clash place) is = tt
    said_is d Left is = tt

    no_answer : (room : Bool) → Every P (cond room [] [])
    no_answer true = tt
    no_answer false = tt

    line_sends : (line : Line) (host : Opened) → AnswersNot line → Tells line → IsHeld host.is.held → Every P (sent_by_line line host)
    line_sends (Calls (calls.Tick now)) host not tells is = tick_sends host.is.number host.is.held is _
    line_sends (Calls (calls.Hear (AskPages asker))) host not tells is = absurd not
    line_sends (Calls (calls.Hear v)) host not tells is = no_answer (has_room_for v host)
    line_sends (Calls call) host not tells is = subst (Every P) (sym (nothing_sent call host not)) tt
    line_sends (Says (Draw d)) host not tells is = said_is d (becomes d host) tells
    line_sends (Says v) host not tells is = (tells, tt)
    line_sends (Arrives d) host not tells is = tt

    lines_send : (lines : List Line) (host : Opened) → AnswerNot lines → Each Tells lines → IsHeld host.is.held → Every P (sent_by_lines lines host) × IsHeld (after_lines lines host).is.held
    lines_send [] host not tell is = (tt, is)
    lines_send (line ∷ lines) host not tell is =
        let rest = lines_send lines (after_line line host) not.1 tell.1 (stays_held line host tell.0 is) in
        (every_both P (sent_by_line line host) (sent_by_lines lines (after_line line host)) (line_sends line host not.0 tell.0 is) rest.0, rest.1)

    -- so it is of all that a self-managing host sends, and holds afterwards
    pub kept_sends : (lines : List KeptLine) (k : Keeping) → Each Tells (expand lines k) → IsHeld k.host.is.held → Every P (sent_by_kept lines k) × IsHeld (after_kept lines k).host.is.held
    kept_sends lines k tell is =
        let hosts = kept_hosts_are_hosts lines k in
        let all = lines_send (expand lines k) k.host (kept_answer_not lines k) tell is in
        (subst (Every P) (sym hosts.1) all.0, subst (λ (o : Opened). IsHeld o.is.held) (sym hosts.0) all.1)
