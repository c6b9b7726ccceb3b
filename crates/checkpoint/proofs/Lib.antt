mod CubeLineParts
mod SavedLines
