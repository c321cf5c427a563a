-- A block ends at the first of its lines that looks as if it closed one.
use Rattle.std.proofs.Common.{ℕ, List, Option, Some, None, Result, Ok, Err, sym, subst}
use Rattle.wb_codec.specs.declared.datagram.Datagram.{Datagram}
use Rattle.wb_codec.specs.declared.datagram.Datagram.TheVariants as datagrams
use Rattle.wb_names.specs.Arrivals.{Outcome, New}
use Rattle.wb_keeping.specs.Performing.{Keeping}
use Rattle.wb_keeping.specs.Refusing.{came_as, drawn_as}
use Rattle.wb_lines.specs.Taking.{met}
use Rattle.wb_member.specs.Calls.{found_by}
use Rattle.wb_member.specs.Opened.{Opened, becomes}
use Rattle.wb_commands.specs.SentLines.{sends_text}
use Rattle.wb_commands.specs.declared.command.Command.{Command}
use Rattle.wb_commands.specs.declared.command.Command.TheVariants as lines
use Rattle.wb_dialog.specs.declared.fault.Refusal.{Refusal}
use Rattle.wb_dialog.specs.declared.line.DriverLine.{DriverLine}
use Rattle.wb_dialog.specs.declared.line.DriverLine.TheVariants.{Script, Say, Came, Add}
use Rattle.wb_dialog.specs.Dialog.{says_line}
use Rattle.wb_dialog.specs.Doing.{text_in}
use Rattle.wb_dialog.specs.Hosting.{Host, Driven, Kept, Reply, prints, denies, came_text, hosting_from, reply_of, unopened, unsent_text}
use Rattle.wb_laws_hosts.specs.Closings.{AreOneLine, IsNoShow, HoldsLines, BlocksCloseOnce, InputsCloseOnce, SessionsCloseOnce}
use Rattle.wb_laws_hosts.specs.Telling.{told_at, told_by, told_driven, told_first, told_in_script, told_kept, told_of, told_said, told_saying}
use Rattle.wb_laws_hosts.specs.Texts.{hosting_at, sent_for_line}
use Rattle.wb_laws_hosts.proofs.PlainLines.{Plain, none, both, plain_rules, whole}
use Rattle.wb_laws_hosts.proofs.PlainTexts as texts
use Rattle.wb_laws_hosts.proofs.Ranges.{hosts_hold_lines, sessions_hold_lines}
use Rattle.wb_laws_hosts.proofs.Telling.{texts_tell_sends}

-- ---- what is answered

unsent : (o : Outcome) → Plain (unsent_text o)
unsent (New place) = none
unsent o = search plain_rules depth 20

module _ (host : Opened) (held : AreOneLine host.is.held) where
  saying : (v : Datagram) → Plain (told_saying v host)
  saying (datagrams.Draw d) = unsent (becomes d host)
  saying v = none

  in_script : (line : Command) → IsNoShow (Ok (Script line)) → Plain (told_in_script line host)
  in_script (lines.Call call) shows = texts.found (found_by call host)
  in_script (lines.Question query) shows = texts.answer query host held shows
  in_script line shows = search plain_rules depth 20

  driven : (line : DriverLine) → IsNoShow (Ok line) → Plain (told_driven line host)
  driven (Script line) shows = in_script line shows
  driven (Say v) shows = saying v
  driven line shows = search plain_rules depth 20

module _ (k : Keeping) (held : AreOneLine k.host.is.held) where
  came_plain : (v : Datagram) (o : Outcome) → Plain (came_text v o)
  came_plain (datagrams.Draw d) o = search plain_rules depth 20
  came_plain v o = none

  kept_script : (line : Command) → IsNoShow (Ok (Script line)) → Plain (told_kept (Script line) k)
  kept_script (lines.Question query) shows = texts.answer query k.host held shows
  kept_script line shows = none

  kept : (line : DriverLine) → IsNoShow (Ok line) → Plain (told_kept line k)
  kept (Script line) shows = kept_script line shows
  kept (Came now v) shows = came_plain v (came_as v k.host)
  kept (Add a) shows = unsent (drawn_as a.page a.time a.op k.host)
  kept line shows = search plain_rules depth 20

first : (line : DriverLine) → Plain (told_first line)
first (Script line) = none
first line = search plain_rules depth 20

told_plain : (s : Option Host) (line : DriverLine) → HoldsLines s → IsNoShow (Ok line) → Plain (told_of s line)
told_plain None line held shows = first line
told_plain (Some (Driven host board)) line held shows = driven host held line shows
told_plain (Some (Kept k)) line held shows = kept k held line shows

said_plain : (s : Option Host) (said : Result DriverLine Refusal) → HoldsLines s → IsNoShow said → Plain (told_said s said)
said_plain s (Ok line) held shows = told_plain s line held shows
said_plain s (Err e) held shows = none

by_plain : (r : Reply) (told : List ℕ) → Plain told → Plain (told_by r told)
by_plain (prints next text) told p = p
by_plain (denies e) told p = none

pub blocks_close_once : BlocksCloseOnce
blocks_close_once s line held shows =
    let told = told_at s line in
    let told_is_plain : Plain told = by_plain (reply_of s (met line)) (told_said s.host (says_line (met line))) (said_plain s.host (says_line (met line)) held shows) in
    whole (text_in (reply_of s (met line))) (subst Plain (sym (texts_tell_sends s line)) (both (sends_text (sent_for_line s line)) told (texts.sends (sent_for_line s line)) told_is_plain))

pub inputs_close_once : InputsCloseOnce
inputs_close_once tuning older line shows = blocks_close_once (hosting_from (unopened tuning) older) line (hosts_hold_lines tuning older) shows

pub sessions_close_once : SessionsCloseOnce
sessions_close_once events i line shows = blocks_close_once (hosting_at events i) line (sessions_hold_lines events i) shows
