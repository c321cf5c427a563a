-- For lines of which none says `judge`, a host writes what one writes that knows no judge.
use Rattle.std.proofs.Common.{◌≡◌, ℕ, Bool, true, false, List, [], ◌∷◌, Option, None, refl, ap, subst, sym, ◌∙◌}
use Rattle.std.specs.Prelude.{All, if◌then◌else◌}
use Rattle.std.specs.List.{concat}
use Rattle.std.proofs.lemmas.List.Elements.{All-head, All-tail}
use Rattle.wb_recovery.specs.declared.tuning.Tuning.{Tuning}
use Rattle.wb_lines.specs.Handling.{Met, whole, too_long}
use Rattle.wb_lines.specs.Input.{InputLine, content, input_lines}
use Rattle.wb_lines.specs.Taking.{is_taken, met}
use Rattle.wb_dialog.specs.Dialog.{answered_lines}
use Rattle.wb_dialog.specs.Hosting as hosting
use Rattle.wb_dialog.specs.Hosting.{Host, Reply, denies, host_after, prints}
use Rattle.wb_dialog.specs.Kinds.{Kind, unjudged, Response, as_unjudged, block_of, blocks_from, kind_after, response_of}
use Rattle.wb_dialog.specs.Laws.{BeginsNoJudge, UnjudgedAsBefore}
use Rattle.wb_dialog.specs.Lines.{said_of}
use Rattle.wb_dialog.proofs.EachKind.{as_replied}

-- what is written for a reply, and the host that it leads to
record IsAlike (s : Option Host) (r : Response) (t : Reply) : Type 0 where
  block : block_of r ≡ hosting.block_of t
  kind : kind_after (unjudged s) r ≡ unjudged (host_after s t)

replies_alike : (s : Option Host) (t : Reply) → IsAlike s (as_unjudged t) t
replies_alike s (prints next text) = record { block = refl; kind = refl }
replies_alike s (denies e) = record { block = refl; kind = refl }

alike : (tuning : Tuning) (s : Option Host) (m : Met) → BeginsNoJudge m → IsAlike s (response_of (record { tuning = tuning; kind = unjudged s }) m) (hosting.reply_of (record { tuning = tuning; host = s }) m)
alike tuning s (whole line) plainly =
    let t = hosting.reply_of (record { tuning = tuning; host = s }) (whole line) in
    subst (λ (r : Response). IsAlike s r t) (sym (as_replied tuning s (said_of (content line)) plainly)) (replies_alike s t)
alike tuning s too_long plainly = record { block = refl; kind = refl }

abbrev NoneBegins : List InputLine → Type 0
NoneBegins [] = Unit {0}
NoneBegins (line ∷ lines) = BeginsNoJudge (met line) × NoneBegins lines

blocks_same : (tuning : Tuning) (s : Option Host) (lines : List InputLine) → NoneBegins lines → blocks_from (record { tuning = tuning; kind = unjudged s }) lines ≡ hosting.blocks_from (record { tuning = tuning; host = s }) lines
blocks_same tuning s [] plainly = refl
blocks_same tuning s (line ∷ lines) plainly =
    let r = response_of (record { tuning = tuning; kind = unjudged s }) (met line) in
    let t = hosting.reply_of (record { tuning = tuning; host = s }) (met line) in
    let it = alike tuning s (met line) plainly.0 in
    ap (λ (b : List ℕ). b ∷ blocks_from (record { tuning = tuning; kind = kind_after (unjudged s) r }) lines) it.block
    ∙ ap (λ (blocks : List (List ℕ)). hosting.block_of t ∷ blocks) (ap (λ (k : Kind). blocks_from (record { tuning = tuning; kind = k }) lines) it.kind ∙ blocks_same tuning (host_after s t) lines plainly.1)

abbrev Plainly : InputLine → Type 0
Plainly line = BeginsNoJudge (met line)

each_none : (lines : List InputLine) → All Plainly lines → NoneBegins lines
each_none [] plainly = tt
each_none (line ∷ lines) plainly = (All-head Plainly line lines plainly, each_none lines (All-tail Plainly line lines plainly))

answered_none : (cut : Bool) (lines : List InputLine) → NoneBegins lines → NoneBegins (answered_lines cut lines)
answered_none cut [] plainly = tt
answered_none cut (line ∷ lines) plainly = at (answered_none cut lines plainly.1) (is_taken cut line) where
  at : NoneBegins (answered_lines cut lines) → (b : Bool) → NoneBegins (if b then line ∷ answered_lines cut lines else [])
  at rest true = (plainly.0, rest)
  at rest false = tt

pub unjudged_as_before : UnjudgedAsBefore
unjudged_as_before tuning cut input plainly =
    ap concat (blocks_same tuning None (answered_lines cut (input_lines input)) (answered_none cut (input_lines input) (each_none (input_lines input) plainly)))
