-- `writer::put_name` meets its contract: the size, and then what is left of the name, put where the loop stands, makes it the whole.
use Prim.Native.Nat.{◌+◌, ◌≤◌}
use mathlib.Core.List.{[]}
use native.Mathlib.Omega.{arith}
use mathlib.Core.Path.{◌≡◌, ◌∙◌}
use lib.ListN.{length, get_or}
use Rattle.op.specs.Ops.{names}
use Rattle.op.proofs.Same.{short}
use Rattle.writer.proofs.Name.{byte_more, byte-none, name-put, size-name}
use Rattle.writer.proofs.Rest.{rest_all}
use Rattle.writer.proofs.put_name.Goals as goal
use Rattle.writer.proofs.put_name.Goals.{After-name_len-n}

-- the name's length, which is small, and fits after its size
counted : (c : After-name_len-n) → (c.name_len-n.result ≡ length (get_or names c.args.k []))
    × ((c.name_len-n.result ≤ 6) × (4 + c.name_len-n.result ≤ length c.args.image.now))
counted c =
    let k = c.args.k in
    let e = c.name_len-n.ensures in
    (e, (omega (arith, short k), omega (arith, size-name k)))

pub loop-j-init : goal.loop-j-init
loop-j-init c = rest_all _ _ _

pub loop-j-preserved : goal.loop-j-preserved
loop-j-preserved c =
    let n = counted (goal.at.loop-j-preserved c).After-name_len-n in
    byte_more _ _ c.loop-j.invariant (omega arith) (omega arith) c.name_byte.ensures

pub returns : goal.returns
returns c =
    let n = counted (goal.at.returns c).After-name_len-n in
    let k = c.args.k in
    (omega (arith, size-name k), name-put k _ _ _ n.0 (byte-none _ c.loop-j.j c.loop-j.invariant (omega arith) ∙ cc) (omega arith))

pub overflow_cast-n : goal.overflow_cast-n
overflow_cast-n c = omega (arith, counted (goal.at.overflow_cast-n c).After-name_len-n)

pub put_u32-requires : goal.put_u32-requires
put_u32-requires c = omega (arith, counted (goal.at.put_u32-requires c).After-name_len-n)

pub name_byte-requires : goal.name_byte-requires
name_byte-requires c = omega (arith, counted (goal.at.name_byte-requires c).After-name_len-n)

pub overflow_add-image : goal.overflow_add-image
overflow_add-image c = omega (arith, counted (goal.at.overflow_add-image c).After-name_len-n)

pub bounds-image-j : goal.bounds-image-j
bounds-image-j c = omega (arith, counted (goal.at.bounds-image-j c).After-name_len-n)

pub overflow_add-result : goal.overflow_add-result
overflow_add-result c = omega (arith, counted (goal.at.overflow_add-result c).After-name_len-n)

pub shape_of-image : goal.shape_of-image
shape_of-image c = omega arith
