use Rattle.wb_c.proofs.Transcripts.{are_a_transcript}
use Rattle.wb_c.proofs.laws.blocks_are_a_transcript.Goals as goal

pub returns : goal.returns
returns c = are_a_transcript
