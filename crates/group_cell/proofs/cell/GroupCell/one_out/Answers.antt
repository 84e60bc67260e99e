use Rattle.group_cell.proofs.cell.GroupCell.one_out.Goals as goal

pub returns-in-Monitor-clause-out : goal.returns-in-Monitor-clause-out
returns-in-Monitor-clause-out g c = c.to_monitor.ensures c.args.self.now c.args.reported

pub returns-in-Client-clause-out : goal.returns-in-Client-clause-out
returns-in-Client-clause-out g c = c.to_client.ensures.out c.args.reported
