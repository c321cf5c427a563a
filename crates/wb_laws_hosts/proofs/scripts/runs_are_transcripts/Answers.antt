use Rattle.wb_laws_hosts.proofs.AddedUp.{run_is_told, thread_is_told}
use Rattle.wb_laws_hosts.proofs.LoneArrivals.{alone_is_one_order}
use Rattle.wb_laws_hosts.proofs.RunTexts.{run_is_without_oks, refused_is_without_oks}
use Rattle.wb_laws_hosts.proofs.scripts.runs_are_transcripts.Goals as goal

pub returns : goal.returns
returns c = record {
  order = alone_is_one_order;
  whole = run_is_without_oks;
  refused = refused_is_without_oks;
  thread = thread_is_told;
  several = run_is_told;
}
