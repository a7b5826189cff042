-- `numbers::names::section_name` meets its contract.
use Rattle.numbers.specs.Names.{dwo_words, index_words, section_names, section_name}
use Rattle.numbers.proofs.NameTable.{bytes_at}
use Rattle.numbers.proofs.names.section_name.Goals as goal

pub returns : goal.returns
unfolding dwo_words index_words section_names section_name
returns c = bytes_at _ section_names _ c.args.code c.section_names-names.ensures c.requires
