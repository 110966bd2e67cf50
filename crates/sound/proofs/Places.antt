-- Live places: those that a started process can select. Variables and their parts are such, and hold values; two are the same or apart.
pub mod LivePlaces
pub mod WholeVariables
pub mod LiveParts
pub mod PartsApart
pub mod LivePlacesApart
