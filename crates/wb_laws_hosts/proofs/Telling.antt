-- What a line prints tells what it sends.
use Rattle.std.proofs.Common.{◌≡◌, ℕ, List, ◌++◌, Option, Some, None, Result, Ok, refl}
use Rattle.wb_commands.specs.SentLines.{sends_text}
use Rattle.wb_commands.specs.declared.command.Command.TheVariants as lines
use Rattle.wb_lines.specs.Taking.{met}
use Rattle.wb_member.specs.Opened.{Opened}
use Rattle.wb_recovery.specs.declared.tuning.Tuning.{Tuning}
use Rattle.wb_dialog.specs.declared.fault.Refusal.{Refusal}
use Rattle.wb_dialog.specs.declared.line.DriverLine.{DriverLine}
use Rattle.wb_dialog.specs.declared.line.DriverLine.TheVariants.{Script}
use Rattle.wb_dialog.specs.Dialog.{says_line}
use Rattle.wb_dialog.specs.Doing.{text_in}
use Rattle.wb_dialog.specs.Hosting.{Host, Driven, Kept, Reply, prints, denies, reply}
use Rattle.wb_laws_sessions.specs.Sessions.{sent_by_deeds}
use Rattle.wb_laws_sessions.specs.Members.{Deed}
use Rattle.wb_laws_hosts.specs.Telling.{TextsTellSends, told_by, told_said}
use Rattle.wb_laws_hosts.specs.Texts.{deeds_by, deeds_said, sent_at_host}
use Rattle.wb_laws_hosts.proofs.Lines.{Led, said_led_at}

by_led : (host : Opened) (r : Reply) (deeds : List Deed) (told : List ℕ) → Led host r deeds told → text_in r ≡ sends_text (sent_by_deeds (deeds_by r deeds) host) ++ told_by r told
by_led host (prints next text) deeds told led = led.1
by_led host (denies e) deeds told led = refl

-- before a board is open nothing is sent
first : (tuning : Tuning) (said : Result DriverLine Refusal) → text_in (reply tuning None said) ≡ told_by (reply tuning None said) (told_said None said)
first tuning (Ok (Script lines.Skip)) = refl
first tuning said = refl

told_at_host : (tuning : Tuning) (s : Option Host) (said : Result DriverLine Refusal) → let r = reply tuning s said in
    text_in r ≡ sends_text (sent_at_host s (deeds_by r (deeds_said tuning s said))) ++ told_by r (told_said s said)
told_at_host tuning None said = first tuning said
told_at_host tuning (Some (Driven host board)) said =
    let h : Host = Driven host board in
    by_led host (reply tuning (Some h) said) (deeds_said tuning (Some h) said) (told_said (Some h) said) (said_led_at tuning h said)
told_at_host tuning (Some (Kept k)) said =
    let h : Host = Kept k in
    by_led k.host (reply tuning (Some h) said) (deeds_said tuning (Some h) said) (told_said (Some h) said) (said_led_at tuning h said)

pub texts_tell_sends : TextsTellSends
texts_tell_sends s line = told_at_host s.tuning s.host (says_line (met line))
