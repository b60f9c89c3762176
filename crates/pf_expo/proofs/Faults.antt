-- Faults of parts.
use Rattle.std.proofs.Common.{◌≡◌, Option, None, Err}
use Rattle.pf_expo.specs.Readings.{Reads}
use Rattle.pf_expo.specs.declared.fault.ReadFault.{ReadFault}
use Rattle.pf_expo.specs.declared.fault.ReadFault.TheVariants.{Bad, Late, OutOfMemory}

-- a fault of a part is a fault of the whole, if nothing is read of the whole where nothing is read of the part
pub fault_of_part : {X Y U V : Type 0} (view : X → Y) (whole : U → V) (e : ReadFault) (o : Option Y) (p : Option V) → (o ≡ None → p ≡ None) → Reads view (Err e) o → Reads whole (Err e) p
fault_of_part view whole Bad o p f r = f r
fault_of_part view whole Late o p f r = absurd r
fault_of_part view whole OutOfMemory o p f r = tt
