use Rattle.std.proofs.Common.{◌≡◌, arith}
use Rattle.teg_net.specs.Circuits.{time_of, tokens_of}
use Rattle.teg_net.proofs.PathLaws.{IsPathBetween-in_range}
use Rattle.teg_certificates.proofs.Short.{circuit_sums}
use Rattle.token_shares.proofs.Cutting.{cut_is}
use Rattle.token_shares.proofs.cuts.cut_of.Goals as goal

pub time_of-requires : goal.time_of-requires
time_of-requires c =
    rw c.deref-2.ensures.value (IsPathBetween-in_range c.args.net.now c.args.circuit.now.places.items c.requires.closed.0 c.requires.closed.0 c.requires.closed.1)

pub overflow_cast-result : goal.overflow_cast-result
overflow_cast-result c =
    let ps = c.args.circuit.now.places.items in
    let low = (circuit_sums c.args.net.now c.rules.ensures ps c.requires).0 in
    let is : c.time_of.result ≡ time_of c.args.net.now ps = rw c.deref-2.ensures.value at c.time_of.ensures.value in
    omega (arith, low, is)

pub tokens_of-requires : goal.tokens_of-requires
tokens_of-requires c =
    rw c.deref-3.ensures.value (IsPathBetween-in_range c.args.net.now c.args.circuit.now.places.items c.requires.closed.0 c.requires.closed.0 c.requires.closed.1)

pub overflow_cast-result-2 : goal.overflow_cast-result-2
overflow_cast-result-2 c =
    let ps = c.args.circuit.now.places.items in
    let low = (circuit_sums c.args.net.now c.rules.ensures ps c.requires).1 in
    let is : c.tokens_of.result ≡ tokens_of c.args.net.now ps = rw c.deref-3.ensures.value at c.tokens_of.ensures.value in
    omega (arith, low, is)

pub returns : goal.returns
returns c =
    let net = c.args.net.now in
    let ps = c.args.circuit.now.places.items in
    let time : c.time_of.result ≡ time_of net ps = rw c.deref-2.ensures.value at c.time_of.ensures.value in
    let tokens : c.tokens_of.result ≡ tokens_of net ps = rw c.deref-3.ensures.value at c.tokens_of.ensures.value in
    let passes = rw c.deref.ensures.value at c.in_ok-passes.ensures.passes in
    let few = rw c.deref.ensures.value at c.in_ok-passes.ensures.most in
    cut_is net c.args.places.now ps (record { time = c.time_of.result; tokens = c.tokens_of.result; passes = c.in_ok-passes.passes }) c.rules.ensures c.requires time tokens passes few
