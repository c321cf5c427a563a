-- The blocks of a process are those of its lines.
use Rattle.std.proofs.Common.{◌≡◌, ℕ, Bool, true, false, cond, List, [], ◌∷◌, ◌++◌, refl, sym, ap, ◌∙◌}
use Rattle.std.specs.Prelude.{nat_eq}
use Rattle.std.specs.List.{concat}
use Rattle.wb_lines.specs.Input.{InputLine}
use Rattle.wb_lines.specs.Taking.{met}
use Rattle.wb_dialog.specs.Hosting.{Hosting, block_of, blocks_from, hosting_after, hosting_from, reply_of, unopened}
use Rattle.wb_laws_hosts.specs.Laws.{BlocksAreTranscripts, blocks_after, blocks_at, lines_after, lines_at}
use Rattle.wb_laws_hosts.specs.Texts.{TextEvent, EventAt, Starts, Takes, hosting_after_event, hosting_at}

-- one line more at the end
host_more : (s : Hosting) (front : List InputLine) (line : InputLine) → hosting_from s (front ++ line ∷ []) ≡ hosting_after (hosting_from s front) (reply_of (hosting_from s front) (met line))
host_more s [] line = refl
host_more s (first ∷ front) line = host_more (hosting_after s (reply_of s (met first))) front line

blocks_more : (s : Hosting) (front : List InputLine) (line : InputLine) → blocks_from s (front ++ line ∷ []) ≡ blocks_from s front ++ block_of (reply_of (hosting_from s front) (met line)) ∷ []
blocks_more s [] line = refl
blocks_more s (first ∷ front) line = ap (λ (blocks : List (List ℕ)). block_of (reply_of s (met first)) ∷ blocks) (blocks_more (hosting_after s (reply_of s (met first))) front line)

-- from its start on, a process came to this by these lines, and wrote these blocks
record Meets (s : Hosting) (lines : List InputLine) (blocks : List (List ℕ)) : Type 0 where
  host : hosting_from (unopened s.tuning) lines ≡ s
  wrote : blocks_from (unopened s.tuning) lines ≡ blocks

event_meets : (e : TextEvent) (s : Hosting) (lines : List InputLine) (blocks : List (List ℕ)) → Meets s lines blocks → Meets (hosting_after_event e s) (lines_after e lines) (blocks_after e s blocks)
event_meets (Starts tuning) s lines blocks m = record { host = refl; wrote = refl }
event_meets (Takes line) s lines blocks m =
    let start = unopened s.tuning in
    record {
      host = host_more start lines line ∙ ap (λ (t : Hosting). hosting_after t (reply_of t (met line))) m.host;
      wrote =
          blocks_more start lines line
          ∙ ap (λ (t : Hosting). blocks_from start lines ++ block_of (reply_of t (met line)) ∷ []) m.host
          ∙ ap (λ (b : List (List ℕ)). b ++ block_of (reply_of s (met line)) ∷ []) m.wrote;
    }

meets : (events : List EventAt) (i : ℕ) → Meets (hosting_at events i) (lines_at events i) (blocks_at events i)
meets [] i = record { host = refl; wrote = refl }
meets (e ∷ older) i = by (meets older i) (nat_eq e.place i) where
  by : Meets (hosting_at older i) (lines_at older i) (blocks_at older i) → (b : Bool)
      → Meets (cond b (hosting_after_event e.event (hosting_at older i)) (hosting_at older i)) (cond b (lines_after e.event (lines_at older i)) (lines_at older i)) (cond b (blocks_after e.event (hosting_at older i) (blocks_at older i)) (blocks_at older i))
  by rest true = event_meets e.event (hosting_at older i) (lines_at older i) (blocks_at older i) rest
  by rest false = rest

pub blocks_are_transcripts : BlocksAreTranscripts
blocks_are_transcripts events i cut input same =
    ap concat (sym (meets events i).wrote ∙ ap (blocks_from (unopened (hosting_at events i).tuning)) same)
