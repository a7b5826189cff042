-- `elf::naming::last_end` meets its contract.
use Rattle.std.proofs.Common.{◌≡◌, ◌+◌, ◌-◌, arith}
use Rattle.elf.proofs.Names.{none_is, last_is}
use Rattle.elf.proofs.naming.last_end.Goals as goal

pub returns-in-Some : goal.returns-in-Some
returns-in-Some c =
    let i = c.in-Some.i in
    let z = c.in-Some.ensures in
    let same : i + 1 - 1 ≡ i = omega arith in
    last_is c.args.names.now (i + 1) (λ k l h. z.2 k (omega arith) h) (omega arith) (omega (arith, z.0)) (rw same z.1)

pub returns-in-None : goal.returns-in-None
returns-in-None c = none_is c.args.names.now 0 (λ k l h. c.in-None.ensures k h) (omega arith)
