-- A row acts on what an event lends it.
use Rattle.std.specs.Prelude.{◌≡◌, ℕ, cond, Ok, Err, Option, Result}
use Rattle.refusal.specs.declared.Refusal.{Refusal}
use Rattle.switch.specs.Meanings.{Meaning}
use Rattle.settings.specs.Setups.{Setup}
use Rattle.event.specs.declared.Timer.{Timer}
use Rattle.event.specs.Events.{is_on}
use Rattle.outbox.specs.Boxes.{pushed_all}
use Rattle.outbox.specs.Rows.{Row, opened}
use Rattle.machine.specs.declared.step.Step.{Step}

-- a row was acted: the machine, the switch and the places that were lent; the time stamp stays
pub record Acts {M S : Type 0} (setup : M → Setup) (meaning : S → Meaning) (f : Row M → Row M) (m m' : M) (x x' : Step S) : Type 0 where
  pub machine : m' ≡ (f (opened m (meaning x.switch.now))).machine
  pub switch : meaning x'.switch.now ≡ (f (opened m (meaning x.switch.now))).switch
  pub sends : x'.out.now ≡ pushed_all (setup m) (f (opened m (meaning x.switch.now))).sent x.out.now
  pub stamp : x'.stamp ≡ x.stamp
  pub same_switch : x'.switch.ghost_name ≡ x.switch.ghost_name
  pub same_places : x'.out.ghost_name ≡ x.out.ghost_name

-- a run-out that is refused does nothing
abbrev pub expires : {M : Type 0} → (Timer → Row M → Row M) → (Timer → Option ℕ) → Result Timer Refusal → Row M → Row M
expires fires timers (Err e) r = r
expires fires timers (Ok t) r = cond (is_on (timers t)) (fires t r) r

abbrev pub ActsAtRunOut : {M : Type 0} → (Timer → Row M → Row M) → (Timer → Option ℕ) → Result Timer Refusal → Row M → Row M → Type 0
ActsAtRunOut fires timers t r r' = r' ≡ expires fires timers t r
