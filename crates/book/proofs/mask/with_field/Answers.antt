use Rattle.std.proofs.Common.{ℕ, ap, ◌∙◌, rules}
use lib.Bits.{bit_or}
use Rattle.std.proofs.lemmas.Nat.{one_shl}
use Rattle.sets.specs.Sets.{Values, joined}
use Rattle.sets.specs.Word.{bit}
use Rattle.sets.proofs.Words.{word_joined, word_single}
use Rattle.book.proofs.mask.with_field.Goals as goal

pub returns : goal.returns
returns c =
    record {
      value =
          ap (λ (x : ℕ). bit (bit_or c.args.mask x)) (one_shl c.args.field 32 (search rules)) ∙ word_joined _ _
          ∙ ap (λ (A : Values). joined (bit c.args.mask) A) (word_single c.args.field (search rules));
    }
