use Rattle.optimal_search.proofs.faults.GoalSearchFault.of.Goals as goal

pub returns-in-TooManyStates : goal.returns-in-TooManyStates
returns-in-TooManyStates c = λ g. (λ e. (cc, cc), λ both. cc)

pub returns-in-OutOfMemory : goal.returns-in-OutOfMemory
returns-in-OutOfMemory c = λ g. (λ e. cc, λ both. cc)
