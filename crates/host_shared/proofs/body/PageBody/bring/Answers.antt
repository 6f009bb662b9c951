use Rattle.host_shared.proofs.body.PageBody.bring.Goals as goal

pub returns-in-Ok-clause-gets : goal.returns-in-Ok-clause-gets
returns-in-Ok-clause-gets g c = (c.self.inside.block, c.get.result, c.get.new.into, c.get.ensures.step)

pub returns-in-Err-clause-gets : goal.returns-in-Err-clause-gets
returns-in-Err-clause-gets g c = (c.self.inside.block, c.get.result, c.get.new.into, c.get.ensures.step)
