use Rattle.event_listen.proofs.Pumping.{pump_goes_on}
use Rattle.event_listen.proofs.sending.Sending.pump.Goals as goal

pub events-preserved : goal.events-preserved
events-preserved g c = pump_goes_on (g.D.Desk.sight c.args.desk.now).own c.args.line.now c.args.self.now c.events.self c.send.new.self c.events.index c.own.result c.events.invariant c.own.ensures.exact
    c.if-not-send.ensures
