use Rattle.au_txn.proofs.KeysStay.{keyed-dropped, keyed-nothing, keyed-opened, keyed-quiet, keyed-settled, keyed-undone, keyed-written}
use Rattle.au_txn.proofs.laws.keys_stay.Goals as goal

pub returns-clause-nothing : goal.returns-clause-nothing
returns-clause-nothing c = λ keys. keyed-nothing keys

pub returns-clause-written : goal.returns-clause-written
returns-clause-written c = λ keys rows before after client changes keyed from once differ unlocked free one. keyed-written keys rows before after client keyed changes one from once differ unlocked free

pub returns-clause-quiet : goal.returns-clause-quiet
returns-clause-quiet c = λ keys rows transactions none differ. keyed-quiet keys rows transactions none differ

pub returns-clause-committed : goal.returns-clause-committed
returns-clause-committed c = λ keys rows before after client keyed one. keyed-settled keys rows before after client keyed one

pub returns-clause-rolled_back : goal.returns-clause-rolled_back
returns-clause-rolled_back c = λ keys rows before after client keyed one. keyed-undone keys rows before after client keyed one

pub returns-clause-opened : goal.returns-clause-opened
returns-clause-opened c = λ before after rows transactions same keyed. keyed-opened before after rows transactions same keyed

pub returns-clause-dropped : goal.returns-clause-dropped
returns-clause-dropped c = λ keys rows transactions t none keyed. keyed-dropped keys rows transactions t none keyed
