use Rattle.std.proofs.Common.{◌∙◌, sym, ap, None}
use Rattle.wb_recovery.specs.Timing.{is_standing}
use Rattle.wb_recovery.specs.Values.{RecoveryValue, timers_in}
use Rattle.wb_recovery.proofs.Consistency.{consistent_end, replaced_value}
use Rattle.wb_recovery.proofs.recovery.Recovery.end.Goals as goal

pub rewrite-requires : goal.rewrite-requires
rewrite-requires c = ap is_standing (ap (λ (v : RecoveryValue). timers_in v c.args.name) c.self.view_is ∙ sym c.requires.before) ∙ c.requires.standing

pub invariant_of-self : goal.invariant_of-self
invariant_of-self c =
    let is = c.requires.before ∙ sym (ap (λ (v : RecoveryValue). timers_in v c.args.name) c.self.view_is) in
    consistent_end _ _ c.self.inside.records c.rewrite.new.records c.self.inside.asks c.self.inside.answers c.self.invariant c.args.name c.args.before is c.rewrite.ensures.ordered c.args.quiet c.end.new.self c.end-2.new.self c.rewrite.ensures.written c.end.ensures.kept c.end-2.ensures.kept c.end.ensures.exact c.end-2.ensures.exact

pub returns : goal.returns
returns c = replaced_value c.self.inside.records c.rewrite.new.records c.args.name (record { ask = None; answer = None; quiet = c.args.quiet }) c.self.inside.tuning c.self.inside.moment c.args.self.now c.self.view_is c.rewrite.ensures.written
