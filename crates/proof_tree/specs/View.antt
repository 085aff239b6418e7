-- The code's proof files as plain data.
use Rattle.std.specs.Prelude.{map}
use Rattle.std.specs.Option.{option_map}
use Rattle.proof_tree.specs.declared.steps.Bind.{Bind}
use Rattle.proof_tree.specs.declared.steps.Bind.TheVariants as bind
use Rattle.proof_tree.specs.declared.steps.CertText.{CertText}
use Rattle.proof_tree.specs.declared.steps.CertText.TheVariants as cert
use Rattle.proof_tree.specs.declared.steps.Move.{Move}
use Rattle.proof_tree.specs.declared.steps.Step.{Step}
use Rattle.proof_tree.specs.declared.steps.Step.TheVariants as step
use Rattle.proof_tree.specs.declared.tree.Addr.{Addr}
use Rattle.proof_tree.specs.declared.tree.Addr.TheVariants as addr
use Rattle.proof_tree.specs.declared.tree.Block.{Block}
use Rattle.proof_tree.specs.declared.tree.ExitSpec.{ExitSpec}
use Rattle.proof_tree.specs.declared.tree.Head.{Head}
use Rattle.proof_tree.specs.declared.tree.Proc.{Proc}
use Rattle.proof_tree.specs.declared.tree.Proof.{Proof}
use Rattle.proof_tree.specs.declared.tree.Sample.{Sample}
use Rattle.proof_tree.specs.declared.tree.Spec.{Spec}
use Rattle.proof_tree.specs.declared.tree.Supplied.{Supplied}
use Rattle.term_tree.specs.View.{tree, array_tree}
use Rattle.term_tree.specs.Written.{pairs_of}
use Rattle.assert_core.specs.View.{assertion_of}
use Rattle.device_spec.specs.View.{device_of}
use Rattle.proof_tree.specs.Trees.{PlainAddr, PlainBind, PlainBlock, PlainCert, PlainExit, PlainHead, PlainMove, PlainProc, PlainProof, PlainSample, PlainSpec, PlainStep, PlainSupplied, array_term, calls, drops, exits, given, goes_to, is_dead, keeps, number, place_value, proves, register_value, returns, symbol, term, unproved, uses, uses_code}

-- ---- steps

-- what stands for a certificate
abbrev pub cert_of : CertText → PlainCert
cert_of cert.Open = unproved
cert_of (cert.Given c) = given c.steps

-- what is bound
abbrev pub bind_of : Bind → PlainBind
bind_of (bind.Term t) = term (tree t)
bind_of (bind.Array f) = array_term (array_tree f)
bind_of (bind.Reg x) = register_value x
bind_of (bind.Mem i) = place_value i

-- where a step leads
abbrev pub move_of : Move → PlainMove
move_of m = record { to = m.to; binds = map bind_of m.binds; places = m.places }

-- a step
abbrev pub step_of : Step → PlainStep
step_of (step.Use i) = uses i
step_of step.UseCode = uses_code
step_of step.Keep = keeps
step_of (step.Prove c) = proves (cert_of c)
step_of (step.Dead c) = is_dead (cert_of c)
step_of (step.Drop c) = drops (cert_of c)
step_of (step.To m) = goes_to (move_of m)
step_of (step.Exit m) = exits (move_of m)
step_of (step.Call m) = calls (move_of m)
step_of (step.Return binds places) = returns (map bind_of binds) places

-- ---- units

-- an address
abbrev pub addr_of : Addr → PlainAddr
addr_of (addr.Number n) = number n
addr_of (addr.Symbol x at) = symbol x at

-- a range of code
abbrev pub range_of : Addr × Addr → PlainAddr × PlainAddr
range_of r = (addr_of r.0, addr_of r.1)

-- a block
abbrev pub block_of : Block → PlainBlock
block_of b = record { name = b.name; at = addr_of b.at; assertion = assertion_of b.assertion; steps = map step_of b.steps }

-- an exit
abbrev pub exit_of : ExitSpec → PlainExit
exit_of e = record { name = e.name; at = tree e.at; assertion = assertion_of e.assertion; steps = map step_of e.steps }

-- a supplied trace
abbrev pub supplied_of : Supplied → PlainSupplied
supplied_of s = record { opcode = s.opcode; text = s.text; text_at = s.text_at; steps = map step_of s.steps }

-- a state to begin with
abbrev pub sample_of : Sample → PlainSample
sample_of s = record { values = pairs_of s.values; answers = s.answers }

-- a specification
abbrev pub spec_of : Spec → PlainSpec
spec_of s = record {
  name = s.name;
  fix = s.fix;
  assumes = s.assumes;
  given = map tree s.given;
  code = map range_of s.code;
  exits = map exit_of s.exits;
  blocks = map block_of s.blocks;
  traces = map supplied_of s.traces;
  sample = option_map sample_of s.sample;
}

-- what a call needs to know of a procedure
abbrev pub head_of : Head → PlainHead
head_of h = record {
  name = h.name;
  fix = h.fix;
  assumes = h.assumes;
  given = map tree h.given;
  code = map range_of h.code;
  at = addr_of h.at;
  entry = assertion_of h.entry;
  back = tree h.back;
  post = assertion_of h.post;
}

-- a procedure
abbrev pub proc_of : Proc → PlainProc
proc_of p = record { head = head_of p.head; blocks = map block_of p.blocks; traces = map supplied_of p.traces }

-- a proof file
abbrev pub proof_of : Proof → PlainProof
proof_of p = record {
  version = p.version;
  devices = map device_of p.devices;
  procs = map proc_of p.procs;
  specs = map spec_of p.specs;
}
