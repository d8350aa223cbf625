-- A client's state goes on agreeing with links, ports and timers.
use Rattle.std.proofs.Common.{Bool, true, false, Ok, Err, Option, Result, arith}
use Rattle.refusal.specs.declared.Refusal.{Refusal}
use Rattle.switch.specs.Meanings.{Meaning}
use Rattle.switch.specs.declared.port.Port.{Port}
use Rattle.event.specs.Events as event
use Rattle.event.specs.Events.{Event, timer_of}
use Rattle.event.specs.declared.Timer.{Timer}
use Rattle.hearing.specs.Heards.{heard}
use Rattle.hearing.specs.declared.Heard.{Heard}
use Rattle.outbox.specs.Rows.{opened}
use Rattle.client.specs.Machines.{Machine}
use Rattle.client.specs.Rows.{acts, turns, hears, expires}
use Rattle.node_laws.specs.Links.{Both, put, told}
use Rattle.node_laws.specs.Clients.{ClientFit}

module _ (m : Machine) (w : Meaning) (l : Both Bool) (fit : ClientFit m w l) where
  turned : (p : Port) (b : Bool) → ClientFit (turns b p (opened m w)).machine (turns b p (opened m w)).switch (put p b l)
  turned p true = grind arith
  turned p false = grind arith

  listened : (h : Option Heard) → ClientFit (hears h (opened m w)).machine (hears h (opened m w)).switch l
  listened h = grind arith

  expired : (t : Result Timer Refusal) → ClientFit (expires t (opened m w)).machine (expires t (opened m w)).switch l
  expired (Err e) = fit
  expired (Ok t) = grind arith

  pub client_kept : (e : Event) → ClientFit (acts e (opened m w)).machine (acts e (opened m w)).switch (told e l)
  client_kept (event.turns p b) = turned p b
  client_kept (event.hears p xs) = listened (heard m.setup xs)
  client_kept (event.expires n) = expired (timer_of n)
