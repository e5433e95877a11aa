use Rattle.patr_shell.proofs.Meanings.{name_told, variants_told, equations_told}
use Rattle.patr_shell.proofs.refusal.expand_line.Goals as goal

pub returns-in-UnknownName : goal.returns-in-UnknownName
returns-in-UnknownName c = λ f h.
    name_told c.args.symbols.now c.args.file.now c.in-UnknownName.name c.in-UnknownName.line c.in-UnknownName.column f c.name_line.result (rw c.in-UnknownName.is at h) c.name_line.ensures

pub returns-in-TooManyVariants : goal.returns-in-TooManyVariants
returns-in-TooManyVariants c = λ f h.
    variants_told c.args.symbols.now c.args.file.now c.in-TooManyVariants.line c.in-TooManyVariants.count f c.size_line.result (rw c.in-TooManyVariants.is at h) c.size_line.ensures

pub returns-in-TooManyEquations : goal.returns-in-TooManyEquations
returns-in-TooManyEquations c = λ f h.
    equations_told c.args.symbols.now c.args.file.now c.in-TooManyEquations.line c.in-TooManyEquations.count f c.size_line-in-TooManyEquations.result (rw c.in-TooManyEquations.is at h) c.size_line-in-TooManyEquations.ensures
