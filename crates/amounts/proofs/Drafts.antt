-- What is known of a draft on the way.
use Rattle.std.proofs.Common.{◌≡◌, ℕ, ◌<◌, ◌≤◌, length}
use Rattle.sets.specs.Sets.{Values, ◌∈◌, joined}
use Rattle.amounts.specs.declared.draft.Draft.{Draft}
use Rattle.amounts.specs.Rows.{members, Filled}
use Rattle.amounts.specs.Drafts.{last}

-- the members of A are those of the draft and those that are still to come, none of which lies below the last run
pub record Drafts (top most : ℕ) (A : Values) (d : Draft) (pending : Values) : Type 0 where
  pub filled : Filled top 0 d.count d.runs
  pub long : length d.runs ≡ most
  pub whole : A ≡ joined (members top d.runs) pending
  pub later : (v : ℕ) → v ∈ pending → 0 < d.count → (last d).low ≤ v
