-- The table of packed names: each arm's entry is that of an operation, or of none, which antt computes.
use Rattle.fields.specs.Parse.{le}
use Rattle.op.specs.Ops.{names, counts}
use Rattle.op.specs.Packed.{key, bits}
use Rattle.op.proofs.Packed.{named_arm, unnamed_arm}
use Rattle.op.proofs.slot_of.Goals as goal
use Rattle.op.proofs.slot_of.Goals.{in-70, in-71, in-80, in-90, in-91, in-96, in-97, in-98, in-99, in-100, in-101, in-102, in-103, in-107, in-109, in-110, in-111, in-112, in-113, in-114, in-115, in-116, in-117, in-118, in-119, in-120, in-121, in-122, in-124, in-125, in-126, in-128, in-132, in-148, in-149, in-158, in-161, in-163, in-165, in-177, in-182, in-188, in-193, in-196, in-200, in-211, in-215, in-216, in-219, in-65, in_default}

pub returns : goal.returns
unfolding names counts key bits le
returns c =
    elim c.match-h.branch [
      | in-70 w ↦ named_arm w.in-70.is w.e-is tt
      | in-71 w ↦ named_arm w.in-71.is w.e-is tt
      | in-80 w ↦ named_arm w.in-80.is w.e-is tt
      | in-90 w ↦ named_arm w.in-90.is w.e-is tt
      | in-91 w ↦ named_arm w.in-91.is w.e-is tt
      | in-96 w ↦ named_arm w.in-96.is w.e-is tt
      | in-97 w ↦ named_arm w.in-97.is w.e-is tt
      | in-98 w ↦ named_arm w.in-98.is w.e-is tt
      | in-99 w ↦ named_arm w.in-99.is w.e-is tt
      | in-100 w ↦ named_arm w.in-100.is w.e-is tt
      | in-101 w ↦ named_arm w.in-101.is w.e-is tt
      | in-102 w ↦ named_arm w.in-102.is w.e-is tt
      | in-103 w ↦ named_arm w.in-103.is w.e-is tt
      | in-107 w ↦ named_arm w.in-107.is w.e-is tt
      | in-109 w ↦ named_arm w.in-109.is w.e-is tt
      | in-110 w ↦ named_arm w.in-110.is w.e-is tt
      | in-111 w ↦ named_arm w.in-111.is w.e-is tt
      | in-112 w ↦ named_arm w.in-112.is w.e-is tt
      | in-113 w ↦ named_arm w.in-113.is w.e-is tt
      | in-114 w ↦ named_arm w.in-114.is w.e-is tt
      | in-115 w ↦ named_arm w.in-115.is w.e-is tt
      | in-116 w ↦ named_arm w.in-116.is w.e-is tt
      | in-117 w ↦ named_arm w.in-117.is w.e-is tt
      | in-118 w ↦ named_arm w.in-118.is w.e-is tt
      | in-119 w ↦ named_arm w.in-119.is w.e-is tt
      | in-120 w ↦ named_arm w.in-120.is w.e-is tt
      | in-121 w ↦ named_arm w.in-121.is w.e-is tt
      | in-122 w ↦ named_arm w.in-122.is w.e-is tt
      | in-124 w ↦ named_arm w.in-124.is w.e-is tt
      | in-125 w ↦ named_arm w.in-125.is w.e-is tt
      | in-126 w ↦ named_arm w.in-126.is w.e-is tt
      | in-128 w ↦ named_arm w.in-128.is w.e-is tt
      | in-132 w ↦ named_arm w.in-132.is w.e-is tt
      | in-148 w ↦ named_arm w.in-148.is w.e-is tt
      | in-149 w ↦ named_arm w.in-149.is w.e-is tt
      | in-158 w ↦ named_arm w.in-158.is w.e-is tt
      | in-161 w ↦ named_arm w.in-161.is w.e-is tt
      | in-163 w ↦ named_arm w.in-163.is w.e-is tt
      | in-165 w ↦ named_arm w.in-165.is w.e-is tt
      | in-177 w ↦ named_arm w.in-177.is w.e-is tt
      | in-182 w ↦ named_arm w.in-182.is w.e-is tt
      | in-188 w ↦ named_arm w.in-188.is w.e-is tt
      | in-193 w ↦ named_arm w.in-193.is w.e-is tt
      | in-196 w ↦ named_arm w.in-196.is w.e-is tt
      | in-200 w ↦ named_arm w.in-200.is w.e-is tt
      | in-211 w ↦ named_arm w.in-211.is w.e-is tt
      | in-215 w ↦ named_arm w.in-215.is w.e-is tt
      | in-216 w ↦ named_arm w.in-216.is w.e-is tt
      | in-219 w ↦ named_arm w.in-219.is w.e-is tt
      | in-65 w ↦ unnamed_arm w.e-is tt
      | in_default w ↦ unnamed_arm w.e-is tt
    ]
