use Rattle.bpf_machine.proofs.OneMemory.{places_are_addresses, no_byte_elsewhere, loads_are_of_addresses, signed_loads_are_of_addresses, stores_are_at_addresses}
use Rattle.bpf_machine.proofs.Ranges.{ranges_are_of_addresses, rooms_are_at_addresses, opening_is_at_addresses}
use Rattle.bpf_machine.proofs.laws.addresses.Goals as goal

pub returns-clause-places : goal.returns-clause-places
returns-clause-places c = places_are_addresses

pub returns-clause-elsewhere : goal.returns-clause-elsewhere
returns-clause-elsewhere c = no_byte_elsewhere

pub returns-clause-loads : goal.returns-clause-loads
returns-clause-loads c = loads_are_of_addresses

pub returns-clause-signed_loads : goal.returns-clause-signed_loads
returns-clause-signed_loads c = signed_loads_are_of_addresses

pub returns-clause-stores : goal.returns-clause-stores
returns-clause-stores c = stores_are_at_addresses

pub returns-clause-ranges : goal.returns-clause-ranges
returns-clause-ranges c = ranges_are_of_addresses

pub returns-clause-rooms : goal.returns-clause-rooms
returns-clause-rooms c = rooms_are_at_addresses

pub returns-clause-opening : goal.returns-clause-opening
returns-clause-opening c = opening_is_at_addresses
