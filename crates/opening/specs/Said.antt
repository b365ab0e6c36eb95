-- What the walk over a file has found before anything is written.
use Rattle.std.specs.Prelude.{ℕ, ◌≤◌, ◌≡◌, List, length}
use Rattle.fields.specs.Bytes.{most_lent}
use Rattle.fields.specs.Parse.{ok}
use Rattle.pod.specs.Values.{Routine}
use Rattle.pod.specs.Layout.{read_file}

-- the file's first n bytes say a routine, and the image is within the limit
pub record Said (file image : List ℕ) (n : ℕ) : Type 0 where
  pub x : Routine
  pub reads : read_file file ≡ ok x n
  pub lent : length image ≤ most_lent
