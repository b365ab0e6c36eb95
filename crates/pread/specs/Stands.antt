-- Where the lists of a part that was accepted stand, where it ends, and that the counts of its lists are within.
use Rattle.std.specs.Prelude.{ℕ, ◌+◌, ◌≤◌, ◌≡◌, List, length}
use Rattle.fields.specs.Parse.{ok}
use Rattle.pod.specs.Values.{BasicBlock, Routine}
use Rattle.pod.specs.Layout.{block, routine}
use Rattle.pread.specs.Answers.{prev_list, next_list, block_list}

pub record BlockStands (s : List ℕ) (o prev next end : ℕ) : Type 0 where
  pub value : BasicBlock
  pub is : block s o ≡ ok value end
  pub prev_at : prev ≡ prev_list o value
  pub next_at : next ≡ next_list o value
  pub head_within : o + 28 ≤ length s
  pub prev_within : prev + 4 ≤ length s
  pub next_within : next + 4 ≤ length s

pub record RoutineStands (s : List ℕ) (o list end : ℕ) : Type 0 where
  pub value : Routine
  pub is : routine s o ≡ ok value end
  pub blocks_at : list ≡ block_list o value
  pub head_within : o + 16 ≤ length s
  pub list_within : list + 4 ≤ length s
