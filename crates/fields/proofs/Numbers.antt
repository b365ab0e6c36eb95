-- No refusal's number is 0, which stands for none.
use Rattle.std.proofs.Common.{◌≡◌, ◌<◌, arith}
use Rattle.fields.specs.Refusals.{number}
use Rattle.fields.specs.declared.Refusal.{Refusal}
use Rattle.fields.specs.declared.Refusal.TheVariants as v

pub positive : (e : Refusal) → 0 < number e
positive v.ShortFile = omega arith
positive v.NameNotText = omega arith
positive v.WrongMark = omega arith
positive v.UnknownMachine = omega arith
positive v.ForeignRegister = omega arith
positive v.UnknownOperandKind = omega arith
positive v.UnknownOperation = omega arith
positive v.WrongOperandCount = omega arith
positive v.RepeatedBlock = omega arith
positive v.LendingTooLarge = omega arith
positive v.ImageFull = omega arith
positive v.JournalFull = omega arith
positive v.SpoiledBook = omega arith
positive v.BlockPresent = omega arith
positive v.NoSuchBlock = omega arith
positive v.NothingToTakeBack = omega arith
positive v.Leftover = omega arith
positive v.ClosedBlock = omega arith
positive v.CrookedRegister = omega arith
positive v.WalkOpen = omega arith
positive v.NoWalk = omega arith

pub not-zero : (e : Refusal) → number e ≡ 0 → ⊥
not-zero e z = omega (arith, positive e)
