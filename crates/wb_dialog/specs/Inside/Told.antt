-- What a line comes to, and what is printed of it.
use Rattle.std.specs.Prelude.{◌≡◌, ◌++◌, ℕ, List, []}
use Rattle.wb_names.specs.Values.{DrawopValue}
use Rattle.wb_display.specs.Canvas.{canvas_text}
use Rattle.wb_member.specs.Holding.{outcome_in}
use Rattle.wb_commands.specs.Doing.{Says as SaysMember}
use Rattle.wb_commands.specs.SentLines.{send_line, sends_text}
use Rattle.wb_dialog.specs.Dialog.{batch_of, version_line}
use Rattle.wb_dialog.specs.declared.told.Batch.{Batch}
use Rattle.wb_dialog.specs.declared.told.Batch.TheVariants.{Untold, Told as Tells}
use Rattle.wb_dialog.specs.declared.told.Told.{Told}
use Rattle.wb_dialog.specs.declared.told.Told.TheVariants.{Nothing, Version, Member, Send, Batch as Became, Sent, Events, Members, Pages, Canvas, Since, Lacks, Words}
use Rattle.wb_dialog.specs.Texts.{events_text, lacks_line, list_text, members_text, paint_text, since_text, worded_line}

abbrev pub batch_text : Batch → List ℕ
batch_text Untold = []
batch_text (Tells became) = batch_of (outcome_in became)

-- the text of what a line comes to
abbrev pub Says : Told → List ℕ → Type 0
Says Nothing text = text ≡ []
Says Version text = text ≡ version_line
Says (Member told) text = SaysMember told text
Says (Send v) text = text ≡ send_line v
Says (Became became) text = text ≡ batch_of (outcome_in became)
Says (Sent sent batch) text = text ≡ sends_text sent.items ++ batch_text batch
Says (Events events) text = text ≡ events_text events.items
Says (Members members) text = text ≡ members_text members.items
Says (Pages pages) text = text ≡ list_text pages.items
Says (Canvas canvas width height) text = (shown : List DrawopValue) × (canvas ≡ canvas_text shown width height) × (text ≡ paint_text shown width height)
Says (Since since) text = text ≡ since_text since.held since.hidden.items since.shown.items
Says (Lacks count) text = text ≡ lacks_line count
Says (Words v) text = text ≡ worded_line v
