use Rattle.grids.proofs.Raised.{added}
use Rattle.grids.proofs.raising.raised.Goals as goal

pub returns : goal.returns
returns c =
    let z = c.args.size.now in
    let x = c.args.extra.now in
    λ i. record {
      price = added z.price x.price c.requires.0.0 c.requires.1.0 i;
      pressure = added z.pressure x.pressure c.requires.0.1 c.requires.1.1 i;
    }
