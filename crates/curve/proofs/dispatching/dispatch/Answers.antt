use Rattle.curve.proofs.Dispatched.{promise, asked}
use Rattle.curve.proofs.dispatching.dispatch.Goals as goal

pub returns-clause-asked : goal.returns-clause-asked
returns-clause-asked g c = asked (g.C.Contract.meaning c.args.contract.now) _ c.args.level _ c.grant.ensures.answer c.grant.ensures.after

pub returns-clause-promise : goal.returns-clause-promise
returns-clause-promise g c = promise
