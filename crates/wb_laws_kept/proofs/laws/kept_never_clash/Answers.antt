use Rattle.wb_laws_kept.proofs.Agreeing.{kept_never_clash}
use Rattle.wb_laws_kept.proofs.laws.kept_never_clash.Goals as goal

pub returns : goal.returns
returns c = kept_never_clash
