use Rattle.wb_laws_hosts.proofs.Inputs.{blocks_are_transcripts}
use Rattle.wb_laws_hosts.proofs.laws.blocks_are_transcripts.Goals as goal

pub returns : goal.returns
returns c = blocks_are_transcripts
