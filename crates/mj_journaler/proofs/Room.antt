-- The room for what was given stays.
use Rattle.std.proofs.Common.{ℕ, ◌≤◌, Option, None, Some, arith}
use Rattle.mj_journaler.specs.Inside.{HasRoom}
use Rattle.mj_journaler.specs.declared.sent.Offer.{Offer}
use Rattle.mj_journaler.specs.declared.sent.Offer.TheVariants.{Flush, Head, Removal}

pub more : {a b c d e f : ℕ} (o : Option Offer) → a ≤ d → b ≤ e → c ≤ f → HasRoom o a b c → HasRoom o d e f
more None h i j k = tt
more (Some (Flush to)) h i j k = omega (arith, h, k)
more (Some (Head header)) h i j k = omega (arith, i, k)
more (Some (Removal index)) h i j k = omega (arith, j, k)
