use Rattle.pdl_machine_inflight.proofs.Flights.{flights}
use Rattle.pdl_machine_inflight.proofs.in_flight.Goals as goal

pub returns : goal.returns
returns c = flights
