-- The bytes of a drawop that comes out tell it.
use Rattle.std.proofs.Common.{◌≡◌, ◌<◌, ℕ, List, [], ◌∷◌, ◌++◌, Option, Some, None, Result, Ok, ap, arith, get_or, refl, sym, ◌∙◌, subst, ⊎_elim}
use Rattle.std.specs.Prelude.{Contains, codes}
use Rattle.std.proofs.lemmas.List.{append_cancel_left, append_cancel_right}
use Rattle.std.proofs.lemmas.List.Elements.{All-contains, Contains-append_cases}
use Rattle.hex.specs.Hex.{encode_with}
use Rattle.wb_names.specs.Values.{DrawopValue}
use Rattle.wb_names.proofs.Listings.{Any-from_map, Contains-none}
use Rattle.wb_codec.specs.Ranges.{IsDatagram, IsDrawop}
use Rattle.wb_codec.specs.declared.datagram.Datagram.{Datagram}
use Rattle.wb_codec.specs.declared.datagram.Datagram.TheVariants as datagrams
use Rattle.wb_lines.specs.Input.{InputLine}
use Rattle.wb_lines.specs.Taking.{met}
use Rattle.wb_member.specs.Opened.{Opened}
use Rattle.wb_commands.specs.Parsing.{datagram, handed_in}
use Rattle.wb_commands.specs.SentLines.{digits_of, send_line}
use Rattle.wb_commands.specs.declared.fault.LineFault.{LineFault}
use Rattle.wb_commands.proofs.SentDigits.{datagram_read}
use Rattle.wb_dialog.specs.declared.line.DriverLine.TheVariants.{Script, Came}
use Rattle.wb_dialog.specs.Dialog.{says_line}
use Rattle.wb_dialog.specs.Hosting.{Host, Driven, Kept}
use Rattle.wb_laws_sessions.specs.Sessions.{sent_by_deeds}
use Rattle.wb_laws_sessions.specs.Members.{Deed, after_deed, sent_by_deed}
use Rattle.wb_laws_sessions.proofs.Sent.{deed_sends, sent_was_held}
use Rattle.wb_laws_hosts.specs.Laws.{BytesTellDrawops, HandsIn, WasSentByLine}
use Rattle.wb_laws_hosts.specs.Texts.{deeds_at, hosting_at, sent_for_line, sent_at_host, steps_of_texts}
use Rattle.wb_laws_hosts.proofs.DriverLines.{handed_has, says_fits}
use Rattle.wb_laws_hosts.proofs.Ranges.{EachBrings, Holds, InRange, deed_in_range, hosts_hold, line_brings}
use Rattle.wb_laws_hosts.proofs.Said.{was_sent}

-- ---- one line, one datagram

datagram_is : (v w : Datagram) → ◌≡◌ {A = Result Datagram LineFault} (Ok v) (Ok w) → v ≡ w
datagram_is v w e = cc

line_tells : (v w : Datagram) → IsDatagram v → IsDatagram w → send_line v ≡ send_line w → v ≡ w
line_tells v w one other same =
    let digits : digits_of v ≡ digits_of w = append_cancel_right (digits_of v) (digits_of w) (codes "\n") (append_cancel_left (codes "send ") (digits_of v ++ codes "\n") (digits_of w ++ codes "\n") same) in
    datagram_is v w (sym (datagram_read v one) ∙ ap (λ (d : List ℕ). datagram (d ∷ [])) digits ∙ datagram_read w other)

-- the second digit of its kind
abbrev kind_digit : Datagram → ℕ
kind_digit v = get_or (send_line v) 12 0

other_kind : (v : Datagram) (d : DrawopValue) → 49 < kind_digit v → send_line v ≡ send_line (datagrams.Draw d) → ⊥
unfolding encode_with
other_kind v d lt same =
    let is : kind_digit v ≡ 49 = ap (λ (t : List ℕ). get_or t 12 0) same in
    omega (arith, lt, is)

-- What has the line of a drawop in range, and is in range where it is one, is that drawop.
drawop_is : (v : Datagram) (d : DrawopValue) → IsDrawop d → ((x : DrawopValue) → v ≡ datagrams.Draw x → IsDrawop x) → send_line v ≡ send_line (datagrams.Draw d) → v ≡ datagrams.Draw d
unfolding encode_with
drawop_is (datagrams.Draw x) d fit fits same = line_tells (datagrams.Draw x) (datagrams.Draw d) (fits x refl) fit same
drawop_is (datagrams.Session sender sent page marks echoes) d fit fits same = absurd (other_kind (datagrams.Session sender sent page marks echoes) d (omega arith) same)
drawop_is (datagrams.Request asker name) d fit fits same = absurd (other_kind (datagrams.Request asker name) d (omega arith) same)
drawop_is (datagrams.AskPages asker) d fit fits same = absurd (other_kind (datagrams.AskPages asker) d (omega arith) same)
drawop_is (datagrams.PageState sender page marks) d fit fits same = absurd (other_kind (datagrams.PageState sender page marks) d (omega arith) same)

-- ---- what a line sends is in range where it is a drawop

sent_in_range : (deeds : List Deed) (host : Opened) → EachBrings deeds → InRange host → (d : DrawopValue) → Contains (sent_by_deeds deeds host) (datagrams.Draw d) → IsDrawop d
sent_in_range [] host brings f d c = absurd (Contains-none (datagrams.Draw d) c)
sent_in_range (deed ∷ deeds) host brings f d c =
    let next = deed_in_range deed host brings.0 f in
    ⊎_elim
    (λ (now : Contains (sent_by_deed deed host) (datagrams.Draw d)). ⊎_elim
    (λ (was : Contains host.is.held d). All-contains IsDrawop host.is.held d f.board was)
    (λ (is : Contains (after_deed deed host).is.held d). All-contains IsDrawop (after_deed deed host).is.held d next.board is)
    (deed_sends deed host d now))
    (λ (later : Contains (sent_by_deeds deeds (after_deed deed host)) (datagrams.Draw d)). sent_in_range deeds (after_deed deed host) brings.1 next d later)
    (Contains-append_cases (sent_by_deed deed host) (sent_by_deeds deeds (after_deed deed host)) (datagrams.Draw d) c)

sent_fits : (s : Option Host) (deeds : List Deed) → Holds s → EachBrings deeds → (d : DrawopValue) → Contains (sent_at_host s deeds) (datagrams.Draw d) → IsDrawop d
sent_fits None deeds holds brings d c = absurd (Contains-none (datagrams.Draw d) c)
sent_fits (Some (Driven host board)) deeds holds brings d c = sent_in_range deeds host brings holds d c
sent_fits (Some (Kept k)) deeds holds brings d c = sent_in_range deeds k.host brings holds d c

-- ---- what is handed in is in range

handed_fits : (line : InputLine) (d : DrawopValue) → HandsIn line (datagrams.Draw d) → IsDrawop d
handed_fits line d hands = ⊎_elim
    (λ (e : says_line (met line) ≡ Ok (Script (handed_in (datagrams.Draw d)))). handed_has IsDatagram (datagrams.Draw d) (says_fits (met line) (Script (handed_in (datagrams.Draw d))) e))
    (λ (e : (now : ℕ) × (says_line (met line) ≡ Ok (Came now (datagrams.Draw d)))). (says_fits (met line) (Came e.0 (datagrams.Draw d)) e.1).1)
    hands

pub bytes_tell_drawops : BytesTellDrawops
bytes_tell_drawops numbers events line d numbered hands out =
    let s = hosting_at out.older out.e.place in
    let sent = sent_for_line s out.line in
    let a = Any-from_map send_line sent (send_line (datagrams.Draw d)) out.out in
    let there : Contains sent a.1 = (a.0, a.2, a.3) in
    let fits : (x : DrawopValue) → a.1 ≡ datagrams.Draw x → IsDrawop x = λ x is. sent_fits s.host (deeds_at s out.line) (hosts_hold out.older out.e.place) (line_brings s out.line (hosts_hold out.older out.e.place)) x (subst (Contains sent) is there) in
    let is = drawop_is a.1 d (handed_fits line d hands) fits a.4 in
    let w : WasSentByLine events (datagrams.Draw d) = record { e = out.e; older = out.older; behind = out.behind; line = out.line; takes = out.takes; out = subst (Contains sent) is there } in
    sent_was_held numbers (steps_of_texts events) d (was_sent numbers events numbered (datagrams.Draw d) w)
