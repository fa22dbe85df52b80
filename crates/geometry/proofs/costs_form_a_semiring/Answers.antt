use Rattle.geometry.proofs.costs_form_a_semiring.Goals as goal
use Rattle.geometry.proofs.Semiring.{join_assoc, join_comm, join_identityˡ, chain_assoc, chain_identityˡ, chain_identityʳ, zeroˡ, zeroʳ, distribˡ, distribʳ}

pub returns : goal.returns
returns c = record {
  laws = record {
    join_assoc = join_assoc;
    join_comm = join_comm;
    join_identityˡ = join_identityˡ;
    chain_assoc = chain_assoc;
    chain_identityˡ = chain_identityˡ;
    chain_identityʳ = chain_identityʳ;
    zeroˡ = zeroˡ;
    zeroʳ = zeroʳ;
    distribˡ = distribˡ;
    distribʳ = distribʳ;
  };
}
